-- Reading an entry of the code.
use Rattle.std.proofs.Common.{◌≡◌, ℕ, ◌<◌, List, length, get_or, All, sym, ap, ◌∙◌, subst}
use Rattle.std.specs.Prelude.{map}
use Rattle.std.proofs.lemmas.List.{get_or-map, length-map}
use Rattle.vpg_trail.specs.Shown.{entry_of}
use Rattle.vpg_trail.specs.declared.entry.Entry.{Entry as Item}
use Rattle.vpg_texts.specs.Scene.{EntryIsWithin}

pub read_within : (features vertices : ℕ) (entries : List Item) (i : ℕ) (x : Item) → All (EntryIsWithin features vertices) (map entry_of entries) → i < length entries →
    x ≡ get_or entries i x → EntryIsWithin features vertices (entry_of x)
read_within features vertices entries i x all l is =
    subst (EntryIsWithin features vertices) (get_or-map entry_of entries i x (entry_of x) l ∙ ap entry_of (sym is)) (all i (entry_of x) (subst (λ n. i < n) (sym (length-map entries entry_of)) l))
