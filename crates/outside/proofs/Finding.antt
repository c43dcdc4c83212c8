-- Where the file of a name stands in a list of files, and what a change there changes.
use Rattle.std.proofs.Common.{◌≡◌, ◌<◌, ℕ, List, [], ◌∷◌, ◌++◌, Bool, true, false, cond, length, get_or, set, Option, Some, None, refl, sym, ◌∙◌, ap}
use Rattle.std.specs.Prelude.{bytes_eq, position}
use Rattle.std.specs.Option.{option_or}
use Rattle.std.specs.List.{position_or_len}
use Rattle.std.proofs.lemmas.Bool.{ltb-false}
use Rattle.std.proofs.lemmas.List.Folds.{find_at, find-set, find_past, find-append}
use Rattle.std.proofs.lemmas.List.Quantifiers.{position-Some}
use Rattle.std.proofs.lemmas.Option.{slice_get-get_or, slice_get_past}
use Rattle.std.proofs.lemmas.Slice.Eq.{bytes_eq-Decides}
use Rattle.outside.specs.MemoryFiles.{FileState, file_named, PutsFile}
use Rattle.outside.proofs.Effects.{bytes_eq-same}

some_place : (here : Bool) (k i : ℕ) → cond here (Some k) None ≡ Some i → k ≡ i
some_place true k i e = cc
some_place false k i e = absurd (cc)

no_place : (here : Bool) (k : ℕ) → cond here (Some k) None ≡ None → here ≡ false
no_place true k e = absurd (cc)
no_place false k e = refl

place_is : (name : List ℕ) (fs : List FileState) (i : ℕ) → position (λ f. bytes_eq name f.name) fs ≡ Some i → i ≡ position_or_len (λ f. bytes_eq name f.name) fs
place_is name fs i at = sym (some_place _ (position_or_len (λ f. bytes_eq name f.name) fs) i at)

-- the file that a name finds
pub found : (name : List ℕ) (fs : List FileState) (i : ℕ) (d : FileState) → position (λ f. bytes_eq name f.name) fs ≡ Some i
    → file_named name fs ≡ Some (get_or fs i d)
found name fs i d at =
    let within : i < length fs = (position-Some (λ (f : FileState). bytes_eq name f.name) fs i d at).0 in
    find_at (λ (f : FileState). bytes_eq name f.name) fs ∙ rw (← place_is name fs i at) (slice_get-get_or fs i d within)

pub not_found : (name : List ℕ) (fs : List FileState) → position (λ f. bytes_eq name f.name) fs ≡ None → file_named name fs ≡ None
not_found name fs at =
    find_at (λ (f : FileState). bytes_eq name f.name) fs
    ∙ slice_get_past fs (position_or_len (λ f. bytes_eq name f.name) fs) (ltb-false _ _ (no_place _ (position_or_len (λ f. bytes_eq name f.name) fs) at))

-- its name is that name
pub name_is : (name : List ℕ) (fs : List FileState) (i : ℕ) (d : FileState) → position (λ f. bytes_eq name f.name) fs ≡ Some i → name ≡ (get_or fs i d).name
name_is name fs i d at = (bytes_eq-Decides name (get_or fs i d).name).0 (position-Some (λ (f : FileState). bytes_eq name f.name) fs i d at).1

put_at : (name n : List ℕ) (fs : List FileState) (i : ℕ) (after : FileState) → position (λ f. bytes_eq name f.name) fs ≡ Some i → after.name ≡ name
    → (same : Bool) → bytes_eq n name ≡ same → file_named n (set fs i after) ≡ cond same (Some after) (file_named n fs)
put_at name n fs i after at is true same =
    let e : n ≡ name = (bytes_eq-Decides n name).0 same in
    let within : i < length fs = (position-Some (λ (f : FileState). bytes_eq name f.name) fs i after at).0 in
    let passes : bytes_eq name after.name ≡ true = rw is (bytes_eq-same name) in
    rw e (find-set (λ (f : FileState). bytes_eq name f.name) fs i after (place_is name fs i at) within passes)
put_at name n fs i after at is false same =
    let old : bytes_eq n (get_or fs i after).name ≡ false = rw (← name_is name fs i after at) same in
    let new : bytes_eq n after.name ≡ false = rw is same in
    find_past (λ (f : FileState). bytes_eq n f.name) fs i after after old new

-- a file that is written over the one that its name finds
pub put : (name : List ℕ) (fs : List FileState) (i : ℕ) (after : FileState) → position (λ f. bytes_eq name f.name) fs ≡ Some i → after.name ≡ name
    → PutsFile fs (set fs i after) name after
put name fs i after at is = record { finds = λ n. put_at name n fs i after at is (bytes_eq n name) refl }

or_none : (o : Option FileState) → option_or o None ≡ o
or_none None = refl
or_none (Some f) = refl

pushed_at : (name n : List ℕ) (fs : List FileState) (f : FileState) → file_named name fs ≡ None → f.name ≡ name
    → (same : Bool) → bytes_eq n name ≡ same → option_or (file_named n fs) (cond (bytes_eq n f.name) (Some f) None) ≡ cond same (Some f) (file_named n fs)
pushed_at name n fs f none is true same =
    let e : n ≡ name = (bytes_eq-Decides n name).0 same in
    rw (is, same) (rw e (rw none refl))
pushed_at name n fs f none is false same = rw (is, same) (or_none (file_named n fs))

-- a file that is added, where its name found none
pub pushed : (name : List ℕ) (fs : List FileState) (f : FileState) → file_named name fs ≡ None → f.name ≡ name → PutsFile fs (fs ++ f ∷ []) name f
pushed name fs f none is =
    record { finds = λ n. find-append (λ (g : FileState). bytes_eq n g.name) fs (f ∷ []) ∙ pushed_at name n fs f none is (bytes_eq n name) refl }

-- the same, at an element that was read there
pub put_here : (name : List ℕ) (fs : List FileState) (i : ℕ) (d after : FileState) → position (λ f. bytes_eq name f.name) fs ≡ Some i → d ≡ get_or fs i d
    → after.name ≡ d.name
    → (file_named name fs ≡ Some d) × PutsFile fs (set fs i after) name after
put_here name fs i d after at here is =
    let own : d.name ≡ name = ap (λ f. f.name) here ∙ sym (name_is name fs i d at) in
    (found name fs i d at ∙ ap Some (sym here), put name fs i after at (is ∙ own))

pub own_name : (name : List ℕ) (fs : List FileState) (i : ℕ) (d : FileState) → position (λ f. bytes_eq name f.name) fs ≡ Some i → d ≡ get_or fs i d
    → d.name ≡ name
own_name name fs i d at here = ap (λ f. f.name) here ∙ sym (name_is name fs i d at)
