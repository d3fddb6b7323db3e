-- Where the requirement of a name stands.
use Rattle.std.proofs.Common.{◌≡◌, ℕ, zero, suc, ◌+◌, ◌<◌, ◌≤◌, ◌⊎◌, inl, inr, Bool, true, false, cond, List, [], ◌∷◌, length, get_or, drop, bytes_eq, Some, None, refl, sym, ap, ap₂, ◌∙◌, arith}
use Rattle.std.proofs.lemmas.List.{drop_more, drop_all, get_or_read, length-map}
use Rattle.vpg_formula.specs.declared.requirement.Entry as code
use Rattle.vpg_formula.specs.Requirements.{Marked}
use Rattle.vpg_formula.specs.EntryCode.{entries_of, earlier_of}
use Rattle.vpg_checking.specs.Checking.{vertex_named}

many_names : (es : List code.Entry) → length (earlier_of es) ≡ length es
many_names es = length-map (entries_of es) (λ (e : Marked). e.0) ∙ length-map es (λ (e : code.Entry). (e.name, e.formula.marks.items))

pub name_of : (es : List code.Entry) (n : ℕ) (e : code.Entry) → n < length es → e ≡ get_or es n e → get_or (earlier_of es) n [] ≡ e.name
name_of [] n e l is = absurd (omega (arith, l))
name_of (d ∷ es) zero e l is = ap (λ (x : code.Entry). x.name) (sym is)
name_of (d ∷ es) (suc n) e l is = name_of es n e (omega (arith, l)) is

-- whether the name at this place is the one
named_goes : (es : List code.Entry) (roots : List ℕ) (name : List ℕ) (n : ℕ) (e : code.Entry) (b : Bool) → n < length es → n < length roots → e ≡ get_or es n e → bytes_eq e.name name ≡ b →
    vertex_named (drop n (earlier_of es)) (drop n roots) name ≡ cond b (Some (get_or roots n 0)) (vertex_named (drop (n + 1) (earlier_of es)) (drop (n + 1) roots) name)
named_goes es roots name n e b l m is same =
    ap₂ (λ (xs : List (List ℕ)) (vs : List ℕ). vertex_named xs vs name) (drop_more (earlier_of es) n [] (omega (arith, l, many_names es))) (drop_more roots n 0 m)
    ∙ ap (λ (t : Bool). cond t (Some (get_or roots n 0)) (vertex_named (drop (n + 1) (earlier_of es)) (drop (n + 1) roots) name)) (ap (λ (x : List ℕ). bytes_eq x name) (name_of es n e l is) ∙ same)

pub named_here : (es : List code.Entry) (roots : List ℕ) (name : List ℕ) (n : ℕ) (e : code.Entry) (v : ℕ) → n < length es → n < length roots → e ≡ get_or es n e → v ≡ get_or roots n v → bytes_eq e.name name ≡ true →
    vertex_named (drop n (earlier_of es)) (drop n roots) name ≡ Some v
named_here es roots name n e v l m is at same = named_goes es roots name n e true l m is same ∙ ap (λ (w : ℕ). Some w) (sym (get_or_read roots n v m at 0))

pub named_later : (es : List code.Entry) (roots : List ℕ) (name : List ℕ) (n : ℕ) (e : code.Entry) → n < length es → n < length roots → e ≡ get_or es n e → bytes_eq e.name name ≡ false →
    vertex_named (drop n (earlier_of es)) (drop n roots) name ≡ vertex_named (drop (n + 1) (earlier_of es)) (drop (n + 1) roots) name
named_later es roots name n e l m is same = named_goes es roots name n e false l m is same

none_left : (xs : List (List ℕ)) (name : List ℕ) → vertex_named xs [] name ≡ None
none_left [] name = refl
none_left (x ∷ xs) name = refl

pub named_ends : (es : List code.Entry) (roots : List ℕ) (name : List ℕ) (n : ℕ) → (length es ≤ n) ⊎ (length roots ≤ n) → vertex_named (drop n (earlier_of es)) (drop n roots) name ≡ None
named_ends es roots name n (inl l) = ap (λ (xs : List (List ℕ)). vertex_named xs (drop n roots) name) (drop_all n (earlier_of es) (omega (arith, l, many_names es)))
named_ends es roots name n (inr l) = ap (λ (vs : List ℕ). vertex_named (drop n (earlier_of es)) vs name) (drop_all n roots l) ∙ none_left (drop n (earlier_of es)) name
