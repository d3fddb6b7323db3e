-- The forms of the code are those of the entries.
use Rattle.std.proofs.Common.{◌≡◌, ℕ, zero, suc, ◌+◌, ◌<◌, ◌≤◌, ◌⊎◌, inl, inr, Bool, true, false, List, [], ◌∷◌, ◌++◌, length, map, get_or, bytes_eq, cond, refl, sym, subst, ◌∙◌, ap, arith, append_assoc, length-append, All}
use Rattle.std.specs.List.{AllZip}
use Rattle.std.proofs.lemmas.Bool.{cases_Bool, cases_lt}
use Rattle.std.proofs.lemmas.List.{append-nil, get_or_append_left, get_or_at}
use Rattle.vpg_requirement.specs.Actions.{ActionFormula}
use Rattle.vpg_requirement.specs.Formulas.{Formula, nowhere}
use Rattle.vpg_requirement.specs.NormalForms.{NormalForm, unmet, positive_form}
use Rattle.vpg_parts.specs.declared.symbol.Symbol.{Symbol}
use Rattle.vpg_parts.specs.Symbols.{IsSpelled}
use Rattle.vpg_formula.specs.Written.{constant}
use Rattle.vpg_formula.specs.Marks.{written_marks}
use Rattle.vpg_formula.specs.Requirements.{Entry, Marked, marked}
use Rattle.vpg_formula.specs.EntryCode.{entries_of}
use Rattle.vpg_formula.specs.declared.requirement.Entry as code
use Rattle.vpg_meaning.specs.Translation.{entry_formula, formula_of, formulas_in_order}
use Rattle.vpg_written.specs.Translations.{AreTranslated, size, formula_at, IsTooLong}
use Rattle.vpg_written.specs.Trees.{Tree, nothing, tree_of, tree_form, TreeEntry, tree_at, before}
use Rattle.vpg_written.specs.Terms.{AreSets, IsTerm, HasConstants}
use Rattle.vpg_written.specs.Parsing.{parsed, AreStacked, IsMade}
use Rattle.vpg_written.specs.Tasks.{Basis, AreTerms, entry_form}
use Rattle.vpg_written.specs.Entries.{AreMade, IsTermOf}
use Rattle.vpg_written.specs.Whole.{AreSpelledForms, IsTooLongForm}
use Rattle.vpg_written.specs.declared.piece.Piece.{Piece}
use Rattle.vpg_written.specs.declared.task.Term.{Term}
use Rattle.vpg_written.specs.declared.translation.TranslationFault.{TranslationFault}
use Rattle.vpg_written.specs.declared.translation.TranslationFault.TheVariants as faults
use Rattle.vpg_written.proofs.Linking.{AreEarlier, form_is}
use Rattle.vpg_written.proofs.Parsing.{written_parsed, stack_grows}
use Rattle.vpg_written.proofs.Values.{same_actions}

pub get_any : {A : Type 0} (xs : List A) (n : ℕ) (d e : A) → n < length xs → get_or xs n d ≡ get_or xs n e
get_any [] n d e l = absurd (omega arith)
get_any (x ∷ xs) zero d e l = refl
get_any (x ∷ xs) (suc n) d e l = get_any xs n d e (omega arith)

pub at_map : {A B : Type 0} (f : A → B) (xs : List A) (n : ℕ) (d : B) (e : A) → n < length xs → get_or (map f xs) n d ≡ f (get_or xs n e)
at_map f [] n d e l = absurd (omega arith)
at_map f (x ∷ xs) zero d e l = refl
at_map f (x ∷ xs) (suc n) d e l = at_map f xs n d e (omega arith)

pub length_map : {A B : Type 0} (f : A → B) (xs : List A) → length (map f xs) ≡ length xs
length_map f [] = refl
length_map f (x ∷ xs) = ap suc (length_map f xs)

pub all_zip_from : {A B : Type 0} (R : A → B → Type 0) (xs : List A) (ys : List B) (d : A) (e : B) → length xs ≡ length ys → ((n : ℕ) → n < length xs → R (get_or xs n d) (get_or ys n e)) → AllZip R xs ys
all_zip_from R [] [] d e l h = tt
all_zip_from R [] (y ∷ ys) d e l h = absurd (omega arith)
all_zip_from R (x ∷ xs) [] d e l h = absurd (omega arith)
all_zip_from R (x ∷ xs) (y ∷ ys) d e l h = (h 0 (omega arith), all_zip_from R xs ys d e (omega arith) (λ n less. h (suc n) (omega arith)))

-- the name and the tree of an entry
abbrev pub tree_entry : Entry → TreeEntry
tree_entry e = (e.name, tree_of e.formula)

abbrev pub trees_of : List Entry → List TreeEntry
trees_of entries = map tree_entry entries

module _ (names : List (List ℕ)) where
  in_order : (fs : List (List ℕ × Formula)) (entries : List Entry) → length (formulas_in_order names fs entries) ≡ length entries
  in_order fs [] = refl
  in_order fs (e ∷ entries) = ap suc (in_order ((e.name, formula_of names fs [] e.formula) ∷ fs) entries)

  module _ (all : List TreeEntry) where
    abbrev form_of_entry : ℕ → NormalForm
    form_of_entry n = tree_form names (before names all n) false [] (tree_at all n)

    one_later : (m : ℕ) (fs : List (List ℕ × Formula)) (e : Entry) → AreEarlier names (before names all m) fs → get_or all m ([], nothing) ≡ tree_entry e →
        AreEarlier names (before names all (suc m)) ((e.name, formula_of names fs [] e.formula) ∷ fs)
    one_later m fs e are here = λ x sign. subst (λ (y : TreeEntry). cond (bytes_eq x y.0) (tree_form names (before names all m) sign [] y.1) (before names all m x sign)
        ≡ positive_form sign (entry_formula ((e.name, formula_of names fs [] e.formula) ∷ fs) x)) (sym here) (decide x sign (cases_Bool (bytes_eq x e.name)))
      where
        decide : (x : List ℕ) (sign : Bool) → (bytes_eq x e.name ≡ true) ⊎ (bytes_eq x e.name ≡ false) →
            cond (bytes_eq x e.name) (tree_form names (before names all m) sign [] (tree_of e.formula)) (before names all m x sign)
            ≡ positive_form sign (entry_formula ((e.name, formula_of names fs [] e.formula) ∷ fs) x)
        decide x sign (inl is) = rw is (form_is names (before names all m) fs are e.formula sign [])
        decide x sign (inr other) = rw other (are x sign)

    forms_from : (rest : List Entry) (m : ℕ) (fs : List (List ℕ × Formula)) → AreEarlier names (before names all m) fs →
        ((i : ℕ) (d : Entry) → i < length rest → get_or all (m + i) ([], nothing) ≡ tree_entry (get_or rest i d)) →
        (n k : ℕ) → k ≡ m + n → n < length rest → tree_form names (before names all k) false [] (tree_at all k) ≡ positive_form false (get_or (formulas_in_order names fs rest) n nowhere)
    forms_from [] m fs are here n k e l = absurd (omega arith)
    forms_from (x ∷ rest) m fs are here zero k e l = ap form_of_entry same ∙ ap (λ (y : TreeEntry). tree_form names (before names all m) false [] y.1) at_m ∙ form_is names (before names all m) fs are x.formula false []
      where
        same : k ≡ m
        same = omega (arith, e)

        at_m : get_or all m ([], nothing) ≡ tree_entry x
        at_m = ap (λ (i : ℕ). get_or all i ([], nothing)) (omega arith) ∙ here 0 x (omega arith)
    forms_from (x ∷ rest) m fs are here (suc n) k e l = forms_from rest (suc m) ((x.name, formula_of names fs [] x.formula) ∷ fs)
        (one_later m fs x are (ap (λ (i : ℕ). get_or all i ([], nothing)) (omega arith) ∙ here 0 x (omega arith)))
        (λ i d less. ap (λ (j : ℕ). get_or all j ([], nothing)) (omega arith) ∙ here (suc i) d (omega arith)) n k (omega (arith, e)) (omega arith)

  no_entries : (all : List TreeEntry) → AreEarlier names (before names all 0) []
  no_entries all = λ x sign. by_sign sign
    where
      by_sign : (sign : Bool) → before names all 0 [] sign ≡ positive_form sign nowhere
      by_sign true = refl
      by_sign false = refl

  pub forms_are : (entries : List Entry) (n : ℕ) → n < length entries → tree_form names (before names (trees_of entries) n) false [] (tree_at (trees_of entries) n) ≡ positive_form false (formula_at names entries n)
  forms_are entries n l = forms_from (trees_of entries) entries 0 [] (no_entries (trees_of entries)) (λ i d less. ap (λ (j : ℕ). get_or (trees_of entries) j ([], nothing)) (omega arith) ∙ at_map tree_entry entries i ([], nothing) d less) n n (omega arith) l

-- ---- one entry after the other

pub more_holds : {A : Type 0} (P : A → Type 0) (xs ys : List A) (x : A) → All P xs → P x → ys ≡ xs ++ x ∷ [] → All P ys
more_holds P xs ys x h here e = subst (All P) (sym e) (λ k d l. decide k d (cases_lt k (length xs)) l)
  where
    decide : (k : ℕ) (d : _) → (k < length xs) ⊎ (length xs ≤ k) → k < length (xs ++ x ∷ []) → P (get_or (xs ++ x ∷ []) k d)
    decide k d (inl low) l = subst P (sym (get_or_append_left xs (x ∷ []) d k low)) (h k d low)
    decide k d (inr high) l = subst P (sym (get_or_at xs x [] d k (omega (arith, high, l, length-append xs (x ∷ []))))) here

pub forms_more : (g : Basis) (n : ℕ) (forms more : List (List Symbol)) (ss : List Symbol) → AreSpelledForms g n forms → IsSpelled g.actions (entry_form g n) ss → more ≡ forms ++ ss ∷ [] → AreSpelledForms g (n + 1) more
forms_more g n forms more ss h here e = subst (AreSpelledForms g (n + 1)) (sym e) (record {
  count_is = omega (arith, length-append forms (ss ∷ []), h.count_is);
  each = λ k l. decide k (cases_lt k n) l;
})
  where
    decide : (k : ℕ) → (k < n) ⊎ (n ≤ k) → k < n + 1 → IsSpelled g.actions (entry_form g k) (get_or (forms ++ ss ∷ []) k [])
    decide k (inl low) l = subst (IsSpelled g.actions (entry_form g k)) (sym (get_or_append_left forms (ss ∷ []) [] k (omega (arith, h.count_is)))) (h.each k low)
    decide k (inr high) l = subst (IsSpelled g.actions (entry_form g k)) (sym (get_or_at forms ss [] [] k (omega (arith, h.count_is, high, l)))) (subst (λ (i : ℕ). IsSpelled g.actions (entry_form g i) ss) same here)
      where
        same : n ≡ k
        same = omega (arith, high, l)

pub no_forms : (g : Basis) (forms : List (List Symbol)) → forms ≡ [] → AreSpelledForms g 0 forms
no_forms g forms e = record { count_is = ap length e; each = λ n l. absurd (omega arith) }

module _ (names : List (List ℕ)) (actions : List ActionFormula) (es : List code.Entry) where
  pub none_made_yet : (sets : List (List Bool)) (terms : List Term) → terms ≡ [] → AreSets names sets actions → AreMade names actions es 0 sets terms
  none_made_yet sets terms e are = record {
    more = [];
    are = subst (AreSets names sets) (sym (append-nil actions)) are;
    count_is = ap length e;
    each = λ n c d l. absurd (omega arith);
  }

  pub one_made_more : (n : ℕ) (sets after : List (List Bool)) (terms more : List Term) (c : code.Entry) (term : Term) → n < length es → c ≡ get_or es n c → AreMade names actions es n sets terms →
      ((acts : List ActionFormula) → AreSets names sets acts → IsMade names acts (parsed [] c.formula.marks.items) after term.pieces.items) → term.name.now ≡ c.name → more ≡ terms ++ term ∷ [] → AreMade names actions es (n + 1) after more
  one_made_more n sets after terms more c term l is made h name e = finish (h (actions ++ made.more) made.are)
    where
      finish : IsMade names (actions ++ made.more) (parsed [] c.formula.marks.items) after term.pieces.items → AreMade names actions es (n + 1) after more
      finish one = subst (AreMade names actions es (n + 1) after) (sym e) (record {
        more = made.more ++ one.more;
        are = subst (AreSets names after) (append_assoc actions made.more one.more) one.are;
        count_is = omega (arith, length-append terms (term ∷ []), made.count_is);
        each = λ k x d less. subst (λ (acts : List ActionFormula). IsTermOf names acts (get_or es k x) (get_or (terms ++ term ∷ []) k d)) (append_assoc actions made.more one.more) (decide k x d (cases_lt k n) less);
      })
        where
          grown : (c : code.Entry) (t : Term) → IsTermOf names (actions ++ made.more) c t → IsTermOf names ((actions ++ made.more) ++ one.more) c t
          grown c t old = record { name = old.name; pieces = stack_grows names (actions ++ made.more) one.more (same_actions (actions ++ made.more) one.more) (parsed [] c.formula.marks.items) t.pieces.items old.pieces }

          here : IsTermOf names ((actions ++ made.more) ++ one.more) c term
          here = record { name = name; pieces = one.stacked }

          decide : (k : ℕ) (x : code.Entry) (d : Term) → (k < n) ⊎ (n ≤ k) → k < n + 1 → IsTermOf names ((actions ++ made.more) ++ one.more) (get_or es k x) (get_or (terms ++ term ∷ []) k d)
          decide k x d (inl low) less = subst (IsTermOf names ((actions ++ made.more) ++ one.more) (get_or es k x)) (sym (get_or_append_left terms (term ∷ []) d k (omega (arith, made.count_is)))) (grown (get_or es k x) (get_or terms k d) (made.each k x d low))
          decide k x d (inr high) less = subst (IsTermOf names ((actions ++ made.more) ++ one.more) (get_or es k x)) (sym (get_or_at terms term [] d k (omega (arith, made.count_is, high, less))))
              (subst (λ (y : code.Entry). IsTermOf names ((actions ++ made.more) ++ one.more) y term) entry_is here)
            where
              same : n ≡ k
              same = omega (arith, high, less)

              entry_is : c ≡ get_or es k x
              entry_is = is ∙ get_any es n c x l ∙ ap (λ (i : ℕ). get_or es i x) same

-- ---- from the code's entries

module _ (names : List (List ℕ)) (es : List code.Entry) (entries : List Entry) (are : entries_of es ≡ marked entries) where
  pub as_many : length es ≡ length entries
  as_many = sym (length_map (λ (e : code.Entry). (e.name, e.formula.marks.items)) es) ∙ ap length are ∙ length_map (λ (e : Entry). (e.name, written_marks e.formula)) entries

  one_entry : (n : ℕ) (c : code.Entry) (e : Entry) → n < length es → ◌≡◌ {A = Marked} ((get_or es n c).name, (get_or es n c).formula.marks.items) ((get_or entries n e).name, written_marks (get_or entries n e).formula)
  one_entry n c e l = sym (at_map (λ (x : code.Entry). (x.name, x.formula.marks.items)) es n ([], []) c l) ∙ ap (λ (xs : List Marked). get_or xs n ([], [])) are
      ∙ at_map (λ (x : Entry). (x.name, written_marks x.formula)) entries n ([], []) e (omega (arith, as_many))

  no_entry : Entry
  no_entry = record { name = []; formula = constant true }

  abbrev pub basis : (actions : List ActionFormula) → HasConstants actions → Basis
  basis actions constants = record { names = names; actions = actions; entries = trees_of entries; constants = constants }

  tree_is : (n : ℕ) → n < length es → get_or (trees_of entries) n ([], nothing) ≡ tree_entry (get_or entries n no_entry)
  tree_is n l = at_map tree_entry entries n ([], nothing) no_entry (omega (arith, as_many))

  alone_is : (actions : List ActionFormula) (t : Tree) (ps : List Piece) → AreStacked names actions (t ∷ []) ps → IsTerm names actions t ps
  alone_is actions t ps (us, vs, whole, some, none, term) = subst (IsTerm names actions t) (sym (whole ∙ ap (λ (xs : List Piece). xs ++ vs) none)) term

  some_of : {A : Type 0} (xs : List A) (n : ℕ) → n < length xs → A
  some_of [] n l = absurd (omega arith)
  some_of (x ∷ xs) n l = x

  module _ (actions : List ActionFormula) (sets : List (List Bool)) (terms : List Term) (made : AreMade names actions es (length es) sets terms) where
    tree_here : (n : ℕ) (d : Term) → n < length es → IsTerm names (actions ++ made.more) (tree_at (trees_of entries) n) (get_or terms n d).pieces.items
    tree_here n d l = subst (λ (t : Tree). IsTerm names (actions ++ made.more) t (get_or terms n d).pieces.items) (sym (ap (λ (e : TreeEntry). e.1) (tree_is n l)))
        (alone_is (actions ++ made.more) (tree_of (get_or entries n no_entry).formula) (get_or terms n d).pieces.items
        (subst (λ (ts : List Tree). AreStacked names (actions ++ made.more) ts (get_or terms n d).pieces.items)
        (ap (λ (p : Marked). parsed [] p.1) (one_entry n (some_of es n l) no_entry l) ∙ written_parsed (get_or entries n no_entry).formula)
        (made.each n (some_of es n l) d l).pieces))

    pub terms_are : AreTerms (basis (actions ++ made.more) made.are.constants) terms
    terms_are = record {
      count = length_map tree_entry entries ∙ sym as_many ∙ sym made.count_is;
      names = λ n d l. ap (λ (e : TreeEntry). e.0) (tree_is n (omega (arith, made.count_is))) ∙ sym (ap (λ (p : Marked). p.0) (one_entry n (some_of es n (omega (arith, made.count_is))) no_entry (omega (arith, made.count_is))))
          ∙ sym (made.each n (some_of es n (omega (arith, made.count_is))) d (omega (arith, made.count_is))).name;
      trees = λ n d l. tree_here n d (omega (arith, made.count_is));
    }

    pub translated : (forms : List (List Symbol)) → AreSpelledForms (basis (actions ++ made.more) made.are.constants) (length terms) forms → AreTranslated names entries sets forms
    translated forms are_spelled = record {
      actions = actions ++ made.more;
      permitted = made.are.permitted;
      forms_are = all_zip_from (IsSpelled (actions ++ made.more)) (map (positive_form false) (formulas_in_order names [] entries)) forms unmet []
          (length_map (positive_form false) (formulas_in_order names [] entries) ∙ in_order names [] entries ∙ sym as_many ∙ sym made.count_is ∙ sym are_spelled.count_is)
          (λ n l. each n (omega (arith, length_map (positive_form false) (formulas_in_order names [] entries), in_order names [] entries, l)));
    }
      where
        each : (n : ℕ) → n < length entries → IsSpelled (actions ++ made.more) (get_or (map (positive_form false) (formulas_in_order names [] entries)) n unmet) (get_or forms n [])
        each n l = subst (λ (f : NormalForm). IsSpelled (actions ++ made.more) f (get_or forms n []))
            (forms_are names entries n l ∙ sym (at_map (positive_form false) (formulas_in_order names [] entries) n unmet nowhere (omega (arith, in_order names [] entries))))
            (are_spelled.each n (omega (arith, as_many, made.count_is)))

    pub refused : (fault : TranslationFault) → IsTooLongForm (basis (actions ++ made.more) made.are.constants) fault → IsTooLong names entries fault
    refused (faults.TooManyParts n) long = record {
      below = omega (arith, long.below, length_map tree_entry entries);
      many = subst (λ (f : NormalForm). 65536 < size f) (forms_are names entries n (omega (arith, long.below, length_map tree_entry entries))) long.many;
    }
    refused faults.Memory long = tt
