-- Where reading stops, no document goes on.
use Rattle.std.proofs.Common.{◌≡◌, ℕ, suc, ◌+◌, ◌<◌, ◌≤◌, Bool, true, false, ◌==◌, cond, nat_lt, List, [], ◌∷◌, ◌++◌, length, Some, None, Result, Ok, Err, ◌⊎◌, inl, inr, refl, sym, ap, subst, ◌∙◌, arith, append_assoc, eqb-true}
use Rattle.std.specs.Prelude.{bytes_eq, count_by}
use Rattle.std.proofs.lemmas.List.{append-nil}
use Rattle.std.proofs.lemmas.List.Sums.{sum_by-cons}
use Rattle.std.proofs.lemmas.Bool.{ltb-true, ltb-false}
use Rattle.vpg_xml.specs.Elements.{Tag, Element, Document, Piece, Placed, opening, closing, character}
use Rattle.vpg_xml.specs.Tokens.{is_blank, Token, token_at, pieces_of, place_of, HasPieces, body_of}
use Rattle.vpg_xml.specs.Nesting.{element, IsDocument, Spells}
use Rattle.vpg_xml.specs.Faults.{BeginsDocument, IsGoodUpTo, IsAt, is_opening, is_closing, is_character}
use Rattle.vpg_xml.specs.Reading.{Frame, State, Refusal, mismatch, second_root, too_deep, outside, start, with_element, open_first, open_in, close_in, say_in, step, and_then, run}
use Rattle.vpg_xml.specs.View.{is_whole, fault_of, unreadable, IsStepError, Halts, by_memory, by_text, by_piece, by_end, IsReadTo}
use Rattle.vpg_xml.specs.declared.fault.XmlFault.{XmlFault}
use Rattle.vpg_xml.specs.declared.fault.XmlFault.TheVariants as faults
use Rattle.vpg_xml.proofs.Pieces.{First, first_of, Rest, has_rest, no_pieces}
use Rattle.vpg_xml.proofs.Contents.{run_cons, run_first, run_end, run_after, closes, document_found, document_runs}

abbrev Pieces : Type 0
Pieces = List Placed

abbrev Outcome : Type 0
Outcome = Result State Refusal

abbrev state : List Element → List Frame → State
state es fs = record { elements = es; opened = fs }

-- ---- a document begins with what is read

closers : List Frame → Pieces
closers [] = []
closers (f ∷ fs) = record { at = 0; piece = closing f.name } ∷ closers fs

closers_run : (es : List Element) (fs : List Frame) → run (closers fs) (state es fs) ≡ Ok (state es [])
unfolding closers
closers_run es [] = run_end (state es [])
closers_run es (f ∷ fs) =
    run_cons (record { at = 0; piece = closing f.name }) (closers fs) (state es (f ∷ fs)) (state es fs) (closes es f fs 0) ∙ closers_run es fs

record Goes (s : State) : Type 0 where
  more : Pieces
  end : State
  runs : run more s ≡ Ok end
  whole : is_whole end ≡ true
  done : end.opened ≡ []

goes_on : (es : List Element) (fs : List Frame) → Goes (state es fs)
goes_on (e ∷ es) fs = record { more = closers fs; end = state (e ∷ es) []; runs = closers_run (e ∷ es) fs; whole = refl; done = refl }
goes_on [] fs =
    let tag : Tag = record { name = []; attributes = [] } in
    let p : Placed = record { at = 0; piece = opening tag } in
    let q : Placed = record { at = 0; piece = closing tag.name } in
    let f : Frame = record { index = 0; name = [] } in
    let all : List Element = element 0 tag None [] ∷ [] in
    record {
      more = closers fs ++ p ∷ q ∷ [];
      end = state all [];
      runs = run_after (closers fs) (p ∷ q ∷ []) (state [] fs) start (closers_run [] fs)
          ∙ (run_cons p (q ∷ []) start (state all (f ∷ [])) refl ∙ (run_cons q [] (state all (f ∷ [])) (state all []) (closes all f [] 0) ∙ run_end (state all [])));
      whole = refl;
      done = refl;
    }

begins : (ps : Pieces) (s : State) → run ps start ≡ Ok s → BeginsDocument ps
begins ps s e =
    let g : Goes s = goes_on s.elements s.opened in
    (g.more, g.end.elements, document_found (ps ++ g.more) g.end g.whole g.done (run_after ps g.more start s e ∙ g.runs))

stops : (ps : Pieces) (s : State) (p : Placed) (r : Refusal) → run ps start ≡ Ok s → step s p.at p.piece ≡ Err r → ¬ BeginsDocument (ps ++ p ∷ [])
stops ps s p r e f (more, es, d) =
    let runs : run ((ps ++ p ∷ []) ++ more) start ≡ Ok (state es []) = document_runs ((ps ++ p ∷ []) ++ more) es d in
    let refused : run ((ps ++ p ∷ []) ++ more) start ≡ Err r =
    ap (λ (xs : Pieces). run xs start) (append_assoc ps (p ∷ []) more) ∙ (run_after ps (p ∷ more) start s e ∙ (run_first p more s ∙ ap (λ (o : Outcome). and_then o (run more)) f)) in
    let both : Err r ≡ Ok (state es []) = sym refused ∙ runs in
    absurd (cc)

-- ---- how many elements are open

abbrev opens : Pieces → ℕ
opens ps = count_by (λ p. is_opening p.piece) ps

abbrev ends : Pieces → ℕ
ends ps = count_by (λ p. is_closing p.piece) ps

abbrev Kept : State → Piece → State → Type 0
Kept s piece t = (cond (is_opening piece) 1 0 + length s.opened ≡ cond (is_closing piece) 1 0 + length t.opened) × (length t.opened ≤ 64)

kept_as : (s t u : State) (piece : Piece) → (let r : Outcome = Ok u in r ≡ Ok t) → Kept s piece u → Kept s piece t
kept_as s t u piece e k = let same : u ≡ t = cc in subst (λ (v : State). Kept s piece v) same k

step_kept : (s t : State) (at : ℕ) (piece : Piece) → length s.opened ≤ 64 → step s at piece ≡ Ok t → Kept s piece t
step_kept s t at (opening tag) few e = go s.opened refl e
  where
    first : (es : List Element) → length s.opened ≡ 0 → open_first at tag s es ≡ Ok t → Kept s (opening tag) t
    first [] none e = kept_as s t (with_element at tag None s) (opening tag) e (omega arith, omega (arith, none))
    first (x ∷ es) none e = absurd (cc)

    inner : (f : Frame) (b : Bool) → nat_lt (length s.opened) 64 ≡ b → cond b (Ok (with_element at tag (Some f.index) s)) (Err too_deep) ≡ Ok t → Kept s (opening tag) t
    inner f false l e = absurd (cc)
    inner f true l e =
        let less : length s.opened < 64 = ltb-true (length s.opened) 64 l in
        kept_as s t (with_element at tag (Some f.index) s) (opening tag) e (omega arith, omega (arith, less))

    go : (fs : List Frame) → s.opened ≡ fs → open_in at tag s fs ≡ Ok t → Kept s (opening tag) t
    go [] is e = first s.elements (ap length is) e
    go (f ∷ fs) is e = inner f (nat_lt (length s.opened) 64) refl e
step_kept s t at (closing name) few e = go s.opened refl e
  where
    close : (f : Frame) (fs : List Frame) (b : Bool) → s.opened ≡ f ∷ fs → cond b (Ok (state s.elements fs)) (Err mismatch) ≡ Ok t → Kept s (closing name) t
    close f fs false is e = absurd (cc)
    close f fs true is e =
        let n : length s.opened ≡ suc (length fs) = ap length is in
        kept_as s t (state s.elements fs) (closing name) e (omega (arith, n), omega (arith, n, few))

    go : (fs : List Frame) → s.opened ≡ fs → close_in name s fs ≡ Ok t → Kept s (closing name) t
    go [] is e = absurd (cc)
    go (f ∷ fs) is e = close f fs (bytes_eq name f.name) is e
step_kept s t at (character c) few e = go s.opened refl e
  where
    blank : (b : Bool) → cond b (Ok s) (Err outside) ≡ Ok t → Kept s (character c) t
    blank false e = absurd (cc)
    blank true e = kept_as s t s (character c) e (refl, few)

    go : (fs : List Frame) → s.opened ≡ fs → say_in c s fs ≡ Ok t → Kept s (character c) t
    go [] is e = blank (is_blank c) e
    go (f ∷ fs) is e = kept_as s t _ (character c) e (refl, few)

kept_first : (p : Placed) (ps : Pieces) (s t : State) → length s.opened ≤ 64 →
    ((u : State) → length u.opened ≤ 64 → run ps u ≡ Ok t → (opens ps + length u.opened ≡ ends ps + length t.opened) × (length t.opened ≤ 64)) →
    (r : Outcome) → step s p.at p.piece ≡ r → and_then r (run ps) ≡ Ok t → (opens (p ∷ ps) + length s.opened ≡ ends (p ∷ ps) + length t.opened) × (length t.opened ≤ 64)
kept_first p ps s t few ih (Err x) is h = absurd (cc)
kept_first p ps s t few ih (Ok u) is h =
    let one : Kept s p.piece u = step_kept s u p.at p.piece few is in
    let all : (opens ps + length u.opened ≡ ends ps + length t.opened) × (length t.opened ≤ 64) = ih u one.1 h in
    let opened : opens (p ∷ ps) ≡ cond (is_opening p.piece) 1 0 + opens ps = sum_by-cons (λ q. cond (is_opening q.piece) 1 0) p ps in
    let ended : ends (p ∷ ps) ≡ cond (is_closing p.piece) 1 0 + ends ps = sum_by-cons (λ q. cond (is_closing q.piece) 1 0) p ps in
    (omega (arith, opened, ended, one.0, all.0), all.1)

run_kept : (ps : Pieces) (s t : State) → length s.opened ≤ 64 → run ps s ≡ Ok t → (opens ps + length s.opened ≡ ends ps + length t.opened) × (length t.opened ≤ 64)
run_kept [] s t few e =
    let first : Ok s ≡ Ok t = sym (run_end s) ∙ e in
    let same : s ≡ t = cc in
    subst (λ (v : State). (0 + length s.opened ≡ 0 + length v.opened) × (length v.opened ≤ 64)) same (refl, few)
run_kept (p ∷ ps) s t few e = kept_first p ps s t few (λ u m h. run_kept ps u t m h) (step s p.at p.piece) refl (sym (run_first p ps s) ∙ e)

-- ---- why a piece is refused

abbrev Cause : Refusal → State → Piece → Type 0
Cause mismatch s piece = is_closing piece ≡ true
Cause second_root s piece = (is_opening piece ≡ true) × (length s.opened ≡ 0)
Cause too_deep s piece = (is_opening piece ≡ true) × (64 ≤ length s.opened)
Cause outside s piece = (is_character piece ≡ true) × (length s.opened ≡ 0)

cause_as : (s : State) (piece : Piece) (q r : Refusal) → (let o : Outcome = Err q in o ≡ Err r) → Cause q s piece → Cause r s piece
cause_as s piece q r e k = let same : q ≡ r = cc in subst (λ (x : Refusal). Cause x s piece) same k

cause : (s : State) (at : ℕ) (piece : Piece) (r : Refusal) → step s at piece ≡ Err r → Cause r s piece
cause s at (opening tag) r e = go s.opened refl e
  where
    first : (es : List Element) → length s.opened ≡ 0 → open_first at tag s es ≡ Err r → Cause r s (opening tag)
    first [] none e = absurd (cc)
    first (x ∷ es) none e = cause_as s (opening tag) second_root r e (refl, none)

    inner : (f : Frame) (b : Bool) → nat_lt (length s.opened) 64 ≡ b → cond b (Ok (with_element at tag (Some f.index) s)) (Err too_deep) ≡ Err r → Cause r s (opening tag)
    inner f true l e = absurd (cc)
    inner f false l e = cause_as s (opening tag) too_deep r e (refl, ltb-false (length s.opened) 64 l)

    go : (fs : List Frame) → s.opened ≡ fs → open_in at tag s fs ≡ Err r → Cause r s (opening tag)
    go [] is e = first s.elements (ap length is) e
    go (f ∷ fs) is e = inner f (nat_lt (length s.opened) 64) refl e
cause s at (closing name) r e = go s.opened e
  where
    close : (fs : List Frame) (b : Bool) → cond b (Ok (state s.elements fs)) (Err mismatch) ≡ Err r → Cause r s (closing name)
    close fs true e = absurd (cc)
    close fs false e = cause_as s (closing name) mismatch r e refl

    go : (fs : List Frame) → close_in name s fs ≡ Err r → Cause r s (closing name)
    go [] e = cause_as s (closing name) mismatch r e refl
    go (f ∷ fs) e = close fs (bytes_eq name f.name) e
cause s at (character c) r e = go s.opened refl e
  where
    blank : (b : Bool) → length s.opened ≡ 0 → cond b (Ok s) (Err outside) ≡ Err r → Cause r s (character c)
    blank true none e = absurd (cc)
    blank false none e = cause_as s (character c) outside r e (refl, none)

    go : (fs : List Frame) → s.opened ≡ fs → say_in c s fs ≡ Err r → Cause r s (character c)
    go [] is e = blank (is_blank c) (ap length is) e
    go (f ∷ fs) is e = absurd (cc)

-- ---- faults

module _ (text body : List ℕ) (is : body_of text ≡ Some body) where
  good : (ps : Pieces) (rest : List ℕ) (s : State) → HasPieces (length text) body ps rest → run ps start ≡ Ok s → IsGoodUpTo text ps rest (place_of (length text) rest)
  good ps rest s h e = record { body = body; body_is = is; has = h; begins = begins ps s e; place = refl }

  refused_at : (ps : Pieces) (rest behind : List ℕ) (token : Token) (s : State) (piece : Piece) (others : Pieces) (r : Refusal) → HasPieces (length text) body ps rest → run ps start ≡ Ok s →
      token_at (length text) rest ≡ Some (token, behind) → pieces_of (place_of (length text) rest) token ≡ record { at = place_of (length text) rest; piece = piece } ∷ others →
      step s (place_of (length text) rest) piece ≡ Err r → IsAt text (fault_of (place_of (length text) rest) r)
  refused_at ps rest behind token s piece others r h e reads first f = go r (cause s at piece r f) f
    where
      at : ℕ
      at = place_of (length text) rest

      kept : (opens ps + 0 ≡ ends ps + length s.opened) × (length s.opened ≤ 64)
      kept = run_kept ps start s (omega arith) e

      go : (r : Refusal) → Cause r s piece → step s (place_of (length text) rest) piece ≡ Err r → IsAt text (fault_of (place_of (length text) rest) r)
      go mismatch k f = record {
        pieces = ps;
        rest = rest;
        good = good ps rest s h e;
        token = token;
        behind = behind;
        reads = reads;
        piece = piece;
        others = others;
        first = first;
        is = k;
        stops = stops ps s (record { at = place_of (length text) rest; piece = piece }) mismatch e f;
      }
      go second_root k f = record {
        pieces = ps;
        rest = rest;
        good = good ps rest s h e;
        token = token;
        behind = behind;
        reads = reads;
        piece = piece;
        others = others;
        first = first;
        is = (k.0, omega (arith, kept.0, k.1));
        stops = stops ps s (record { at = place_of (length text) rest; piece = piece }) second_root e f;
      }
      go too_deep k f = record {
        pieces = ps;
        rest = rest;
        good = good ps rest s h e;
        token = token;
        behind = behind;
        reads = reads;
        piece = piece;
        others = others;
        first = first;
        is = (k.0, omega (arith, kept.0, kept.1, k.1));
        stops = stops ps s (record { at = place_of (length text) rest; piece = piece }) too_deep e f;
      }
      go outside k f = record {
        pieces = ps;
        rest = rest;
        good = good ps rest s h e;
        token = token;
        behind = behind;
        reads = reads;
        piece = piece;
        others = others;
        first = first;
        is = (k.0, omega (arith, kept.0, k.1));
        stops = stops ps s (record { at = place_of (length text) rest; piece = piece }) outside e f;
      }

  unreadable_at : (ps : Pieces) (rest : List ℕ) (s : State) → HasPieces (length text) body ps rest → run ps start ≡ Ok s → 0 < length rest → token_at (length text) rest ≡ None →
      IsAt text (unreadable (place_of (length text) rest) rest)
  unreadable_at ps [] s h e l none = absurd (omega arith)
  unreadable_at ps (b ∷ rest) s h e l none = reference (b == 38) refl
    where
      at : ℕ
      at = place_of (length text) (b ∷ rest)

      not_equal : (n : ℕ) → (b == n) ≡ false → ¬ (b ≡ n)
      not_equal n f same = let t : (b == n) ≡ true = grind (arith) in absurd (cc)

      markup : (t : Bool) → (b == 38) ≡ false → (b == 60) ≡ t → IsAt text (cond t (faults.Markup (place_of (length text) (b ∷ rest))) (faults.Character (place_of (length text) (b ∷ rest))))
      markup true n t = record { pieces = ps; rest = b ∷ rest; good = good ps (b ∷ rest) s h e; byte = b; first = refl; is = eqb-true b 60 t; none = none }
      markup false n t = record { pieces = ps; rest = b ∷ rest; good = good ps (b ∷ rest) s h e; byte = b; first = refl; is = (not_equal 38 n, not_equal 60 t); none = none }

      reference : (t : Bool) → (b == 38) ≡ t → IsAt text (cond t (faults.Reference (place_of (length text) (b ∷ rest)))
          (cond (b == 60) (faults.Markup (place_of (length text) (b ∷ rest))) (faults.Character (place_of (length text) (b ∷ rest)))))
      reference true t = record { pieces = ps; rest = b ∷ rest; good = good ps (b ∷ rest) s h e; byte = b; first = refl; is = eqb-true b 38 t; none = none }
      reference false t = markup (b == 60) t refl

  -- a document has an element
  document_whole : (ps : Pieces) (d : Document) → IsDocument ps d → is_whole (state d []) ≡ true
  document_whole ps d k = ap (λ (es : List Element). is_whole (state es [])) k.elements_are

  unfinished_at : (ps : Pieces) (s : State) → HasPieces (length text) body ps [] → run ps start ≡ Ok s → is_whole s ≡ false → IsAt text (faults.Unfinished (length text))
  unfinished_at ps s h e not_whole = record {
    pieces = ps;
    good = record { body = body; body_is = is; has = h; begins = begins ps s e; place = omega arith };
    none = none;
  }
    where
      none : (d : Document) → ¬ IsDocument ps d
      none d k =
          let both : Ok s ≡ Ok (state d []) = sym e ∙ document_runs ps d k in
          let same : s ≡ state d [] = cc in
          let all : is_whole s ≡ true = ap is_whole same ∙ document_whole ps d k in
          let clash : false ≡ true = sym not_whole ∙ all in
          absurd (cc)

  pub halts_at : (fault : XmlFault) → Halts (length text) body fault → IsAt text fault
  halts_at faults.Memory by_memory = tt
  halts_at fault (by_text ps rest s h e l none) = unreadable_at ps rest s h e l none
  halts_at fault (by_piece ps rest behind token s h e reads k) =
      subst (IsAt text) (sym k.fault_is) (refused_at ps rest behind token s k.piece k.others k.refusal h e reads k.first k.refused)
  halts_at fault (by_end ps s h e not_whole) = unfinished_at ps s h e not_whole

  -- ---- no other document

  -- the pieces of a document that the text spells
  record Same (d : Document) : Type 0 where
    pieces : Pieces
    has : HasPieces (length text) body pieces []
    runs : run pieces start ≡ Ok (state d [])
    whole : is_whole (state d []) ≡ true

  same_of : (d : Document) → Spells text d → Same d
  same_of d k =
      let both : Some body ≡ Some k.body = sym is ∙ k.body_is in
      let bodies : k.body ≡ body = cc in
      record {
        pieces = k.pieces;
        has = subst (λ (b : List ℕ). HasPieces (length text) b k.pieces []) bodies k.has;
        runs = document_runs k.pieces d k.is;
        whole = document_whole k.pieces d k.is;
      }

  -- all pieces are read
  all_read : (ps qs : Pieces) → HasPieces (length text) body ps [] → HasPieces (length text) body qs [] → qs ≡ ps
  all_read ps qs h k =
      let r : Rest (length text) [] ps qs = has_rest (length text) h qs k in
      r.parts ∙ (ap (λ (xs : Pieces). ps ++ xs) (no_pieces (length text) [] r.more refl r.has) ∙ append-nil ps)

  pub read_spells : (es : Document) → IsReadTo (length text) body es → Spells text es
  read_spells es r = record {
    body = body;
    pieces = r.pieces;
    body_is = is;
    has = r.has;
    is = subst (IsDocument r.pieces) (sym r.elements_are) (document_found r.pieces r.s r.whole (none_open r.s.elements r.s.opened r.whole) r.reads);
  }
    where
      none_open : (es : List Element) (fs : List Frame) → is_whole (state es fs) ≡ true → fs ≡ []
      none_open es [] e = refl
      none_open [] (f ∷ fs) e = absurd (cc)
      none_open (x ∷ es) (f ∷ fs) e = absurd (cc)

  pub read_only : (es d : Document) → IsReadTo (length text) body es → Spells text d → es ≡ d
  read_only es d r k =
      let s : Same d = same_of d k in
      let both : Ok r.s ≡ Ok (state d []) = sym r.reads ∙ (sym (ap (λ (ps : Pieces). run ps start) (all_read r.pieces s.pieces r.has s.has)) ∙ s.runs) in
      let same : r.s ≡ state d [] = cc in
      r.elements_are ∙ ap (λ (t : State). t.elements) same

  pub halts_only : (fault : XmlFault) (d : Document) → Halts (length text) body fault → Spells text d → fault ≡ faults.Memory
  halts_only fault d by_memory k = refl
  halts_only fault d (by_text ps rest s h e l none) k = absurd (go (first_of (length text) r.has refl))
    where
      m : Same d
      m = same_of d k

      r : Rest (length text) rest ps m.pieces
      r = has_rest (length text) h m.pieces m.has

      go : ((rest ≡ []) × (r.more ≡ [])) ⊎ First (length text) rest r.more → ⊥
      go (inl x) = let n : length rest ≡ 0 = ap length x.0 in omega (arith, l, n)
      go (inr f) = let both : None ≡ Some (f.token, f.behind) = sym none ∙ f.reads in cc
  halts_only fault d (by_piece ps rest behind token s h e reads x) k = absurd (go (first_of (length text) r.has refl))
    where
      m : Same d
      m = same_of d k

      r : Rest (length text) rest ps m.pieces
      r = has_rest (length text) h m.pieces m.has

      go : ((rest ≡ []) × (r.more ≡ [])) ⊎ First (length text) rest r.more → ⊥
      go (inl y) = let none : token_at (length text) [] ≡ Some (token, behind) = ap (λ (t : List ℕ). token_at (length text) t) (sym y.0) ∙ reads in cc
      go (inr f) =
          let both : Some (token, behind) ≡ Some (f.token, f.behind) = sym reads ∙ f.reads in
          let pair : (token, behind) ≡ (f.token, f.behind) = cc in
          let at : ℕ = place_of (length text) rest in
          let p : Placed = record { at = at; piece = x.piece } in
          let more : r.more ≡ p ∷ (x.others ++ f.others) = f.parts ∙ (ap (λ (t : Token × List ℕ). pieces_of at t.0 ++ f.others) (sym pair) ∙ ap (λ (xs : Pieces). xs ++ f.others) x.first) in
          let runs : run m.pieces start ≡ Err x.refusal =
          ap (λ (xs : Pieces). run xs start) (r.parts ∙ ap (λ (xs : Pieces). ps ++ xs) more) ∙ (run_after ps (p ∷ (x.others ++ f.others)) start s e
          ∙ (run_first p (x.others ++ f.others) s ∙ ap (λ (o : Outcome). and_then o (run (x.others ++ f.others))) x.refused)) in
          let clash : Err x.refusal ≡ Ok (state d []) = sym runs ∙ m.runs in
          cc
  halts_only fault d (by_end ps s h e not_whole) k =
      let m : Same d = same_of d k in
      let both : Ok s ≡ Ok (state d []) = sym e ∙ (sym (ap (λ (xs : Pieces). run xs start) (all_read ps m.pieces h m.has)) ∙ m.runs) in
      let same : s ≡ state d [] = cc in
      let all : is_whole s ≡ true = ap is_whole same ∙ m.whole in
      let clash : false ≡ true = sym not_whole ∙ all in
      absurd (cc)

-- ---- the code's halts

pub empty_is : (r : List ℕ) → length r ≡ 0 → r ≡ []
empty_is [] e = refl
empty_is (b ∷ r) e = absurd (omega arith)

pub step_halts : (size : ℕ) (body : List ℕ) (ps : Pieces) (rest behind : List ℕ) (token : Token) (s : State) (fault : XmlFault) → HasPieces size body ps rest → run ps start ≡ Ok s →
    token_at size rest ≡ Some (token, behind) → IsStepError s (place_of size rest) token fault → Halts size body fault
step_halts size body ps rest behind token s fault h e reads (inl m) = subst (Halts size body) (sym m) by_memory
step_halts size body ps rest behind token s fault h e reads (inr k) = by_piece ps rest behind token s h e reads k
