-- The lines of requirements and their vertices.
use Rattle.std.proofs.Common.{◌≡◌, ℕ, suc, ◌+◌, List, ◌++◌, Option, Some, None, length, arith, refl, sym, ap, ◌∙◌, append_assoc, Bor}
use Rattle.std.specs.Prelude.{slice_get, option_map}
use Rattle.std.specs.Slice.{IsItemAt}
use Rattle.std.proofs.lemmas.Option.{slice_get-map, slice_get_read, slice_get_past}
use Rattle.vpg_formula.specs.EntryCode.{earlier_of}
use Rattle.vpg_formula.specs.declared.requirement.Entry as code
use Rattle.vpg_family.proofs.Models.{read_names}

-- the name of an entry
abbrev name_of : code.Entry → List ℕ
name_of e = e.name

-- the name at a place is that of the entry there
name_at : (es : List code.Entry) (n : ℕ) → slice_get (earlier_of es) n ≡ option_map name_of (slice_get es n)
name_at es n = ap (λ (l : List (List ℕ)). slice_get l n) (read_names es) ∙ slice_get-map name_of es n

-- an entry that is lent is the one there
pub entry_shown : (es : List code.Entry) (n : ℕ) (r : Option (Bor code.Entry)) → IsItemAt es n r → option_map (λ (b : Bor code.Entry). b.now.name) r ≡ slice_get (earlier_of es) n
entry_shown es n None h = ap (λ (o : Option code.Entry). option_map name_of o) (sym (slice_get_past es n h.3)) ∙ sym (name_at es n)
entry_shown es n (Some b) h = ap (λ (o : Option code.Entry). option_map name_of o) (sym (slice_get_read es (length es) n b.now refl h.3.0 h.1)) ∙ sym (name_at es n)

-- a vertex that is lent is the one there
pub vertex_shown : (vs : List ℕ) (n : ℕ) (r : Option (Bor ℕ)) → IsItemAt vs n r → option_map (λ (b : Bor ℕ). b.now) r ≡ slice_get vs n
vertex_shown vs n None h = sym (slice_get_past vs n h.3)
vertex_shown vs n (Some b) h = sym (slice_get_read vs (length vs) n b.now refl h.3.0 h.1)

-- a list grows by what is made of the entry and the vertex at each place
pub one_more : {X : Type 0} (made : Option (List ℕ) → Option ℕ → List X) (upto : ℕ → List X) (es : List code.Entry) (vs : List ℕ) (n : ℕ) (r : Option (Bor code.Entry)) (s : Option (Bor ℕ)) (before now new : List X) →
    upto (suc n) ≡ upto n ++ made (slice_get (earlier_of es) n) (slice_get vs n) → IsItemAt es n r → IsItemAt vs n s → now ≡ before ++ upto n
    → new ≡ now ++ made (option_map (λ (b : Bor code.Entry). b.now.name) r) (option_map (λ (b : Bor ℕ). b.now) s) → new ≡ before ++ upto (n + 1)
one_more {X} made upto es vs n r s before now new more entry vertex is grows =
    let next : suc n ≡ n + 1 = omega arith in
    grows
    ∙ (λ k. is k ++ made (entry_shown es n r entry k) (vertex_shown vs n s vertex k))
    ∙ append_assoc before (upto n) (made (slice_get (earlier_of es) n) (slice_get vs n))
    ∙ ap (λ (l : List X). before ++ l) (sym more)
    ∙ ap (λ (k : ℕ). before ++ upto k) next
