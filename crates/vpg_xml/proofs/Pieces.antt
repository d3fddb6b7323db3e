-- The pieces of a text, one token after the other.
use Rattle.std.proofs.Common.{◌≡◌, ℕ, List, [], ◌++◌, Some, ◌⊎◌, inl, inr, refl, sym, ap, ap₂, subst, ◌∙◌, append_assoc}
use Rattle.std.proofs.lemmas.List.{append-nil}
use Rattle.vpg_xml.specs.Elements.{Placed}
use Rattle.vpg_xml.specs.Tokens.{Token, token_at, pieces_of, place_of, HasPieces, no_token, one_token}

-- one more token at the end
pub has_more : (size : ℕ) {text mid : List ℕ} {ps : List Placed} → HasPieces size text ps mid → (token : Token) (behind : List ℕ) →
    token_at size mid ≡ Some (token, behind) → HasPieces size text (ps ++ pieces_of (place_of size mid) token) behind
has_more size (no_token {text = text}) token behind e =
    subst (λ (ps : List Placed). HasPieces size text ps behind) (append-nil (pieces_of (place_of size text) token)) (one_token e no_token)
has_more size {text} {mid} (one_token {token = token1} {pieces = ps} e1 h) token behind e =
    subst (λ (ps : List Placed). HasPieces size text ps behind) (sym (append_assoc (pieces_of (place_of size text) token1) ps (pieces_of (place_of size mid) token)))
    (one_token e1 (has_more size h token behind e))

-- the first token of pieces up to the text's end
pub record First (size : ℕ) (text : List ℕ) (qs : List Placed) : Type 0 where
  pub token : Token
  pub behind : List ℕ
  pub others : List Placed
  pub reads : token_at size text ≡ Some (token, behind)
  pub parts : qs ≡ pieces_of (place_of size text) token ++ others
  pub has : HasPieces size behind others []

pub first_of : (size : ℕ) {text end : List ℕ} {qs : List Placed} → HasPieces size text qs end → end ≡ [] → ((text ≡ []) × (qs ≡ [])) ⊎ First size text qs
first_of size no_token e = inl (e, refl)
first_of size (one_token {text = text} {behind = behind} {token = token} {pieces = qs} r h) e =
    inr (record { token = token; behind = behind; others = qs; reads = r; parts = refl; has = subst (λ (end : List ℕ). HasPieces size behind qs end) e h })

-- what is left of pieces that go on after these
pub record Rest (size : ℕ) (rest : List ℕ) (ps qs : List Placed) : Type 0 where
  pub more : List Placed
  pub parts : qs ≡ ps ++ more
  pub has : HasPieces size rest more []

module _ (size : ℕ) {text behind rest : List ℕ} {token : Token} {ps : List Placed} (r : token_at size text ≡ Some (token, behind))
    (later : (qs : List Placed) → HasPieces size behind qs [] → Rest size rest ps qs) where
  rest_first : (qs : List Placed) → First size text qs → Rest size rest (pieces_of (place_of size text) token ++ ps) qs
  rest_first qs f =
      let both : Some (token, behind) ≡ Some (f.token, f.behind) = sym r ∙ f.reads in
      let pair : (token, behind) ≡ (f.token, f.behind) = cc in
      let tokens : token ≡ f.token = ap (λ (p : Token × List ℕ). p.0) pair in
      let behinds : behind ≡ f.behind = ap (λ (p : Token × List ℕ). p.1) pair in
      let i : Rest size rest ps f.others = later f.others (subst (λ (t : List ℕ). HasPieces size t f.others []) (sym behinds) f.has) in
      record {
        more = i.more;
        parts = f.parts ∙ (ap₂ (λ (t : Token) (xs : List Placed). pieces_of (place_of size text) t ++ xs) (sym tokens) i.parts
            ∙ sym (append_assoc (pieces_of (place_of size text) token) ps i.more));
        has = i.has;
      }

  rest_any : (qs : List Placed) → ((text ≡ []) × (qs ≡ [])) ⊎ First size text qs → Rest size rest (pieces_of (place_of size text) token ++ ps) qs
  rest_any qs (inl e) = let none : token_at size [] ≡ Some (token, behind) = ap (λ (t : List ℕ). token_at size t) (sym e.0) ∙ r in absurd (cc)
  rest_any qs (inr f) = rest_first qs f

pub has_rest : (size : ℕ) {text rest : List ℕ} {ps : List Placed} → HasPieces size text ps rest → (qs : List Placed) → HasPieces size text qs [] → Rest size rest ps qs
has_rest size no_token qs k = record { more = qs; parts = refl; has = k }
has_rest size (one_token r h) qs k = rest_any size r (λ vs m. has_rest size h vs m) qs (first_of size k refl)

-- an empty text has no pieces
pub no_pieces : (size : ℕ) (text : List ℕ) (qs : List Placed) → text ≡ [] → HasPieces size text qs [] → qs ≡ []
no_pieces size text qs is h = go (first_of size h refl)
  where
    go : ((text ≡ []) × (qs ≡ [])) ⊎ First size text qs → qs ≡ []
    go (inl e) = e.1
    go (inr f) = let none : token_at size [] ≡ Some (f.token, f.behind) = ap (λ (t : List ℕ). token_at size t) (sym is) ∙ f.reads in absurd (cc)
