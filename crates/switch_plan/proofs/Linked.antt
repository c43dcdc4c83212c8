-- The first of a list that passes a test, as far as it was looked through.
use Rattle.std.proofs.Common.{◌≡◌, ◌≢◌, ◌∙◌, ℕ, zero, suc, ◌+◌, ◌<◌, Bool, true, false, List, [], ◌∷◌, length, take, slice_index_or, Option, None, Some}
use Rattle.std.proofs.Common.{if◌then◌else◌, refl, ap, sym, subst, arith}
use Rattle.std.specs.Prelude.{map, find, not, ◌==◌, option_map}
use Rattle.std.proofs.lemmas.Bool.Decides.{nat_tests}
use Rattle.std.proofs.lemmas.List.{length-map}
use Rattle.std.proofs.Math.ListN.{get_or-map as get_or-map_same}
use Rattle.pcap_records.specs.declared.capture.Capture.{Capture}
use Rattle.pcap_records.specs.Format.{link_type}
use Rattle.switch_plan.specs.declared.fault.PlanFault.TheVariants.{MixedLink}
use Rattle.switch_plan.specs.Traffic.{CaptureFile, file_of}
use Rattle.switch_plan.specs.Refusals.{first_link, mixed_links}

-- an element that does not pass is passed over
passed_over : {A : Type 0} (b : Bool) (x : A) (rest more : Option A) → (if b then Some x else rest) ≡ None → (rest ≡ None → more ≡ None)
    → (if b then Some x else more) ≡ None
passed_over true x rest more before next = absurd (cc before)
passed_over false x rest more before next = next before

found_later : {A : Type 0} (b : Bool) (x y : A) (rest more : Option A) → (if b then Some x else rest) ≡ None → (rest ≡ None → more ≡ Some y)
    → (if b then Some x else more) ≡ Some y
found_later true x y rest more before next = absurd (cc before)
found_later false x y rest more before next = next before

pub find_next : {A : Type 0} (p : A → Bool) (xs : List A) (k : ℕ) (d : A) → k < length xs → find p (take k xs) ≡ None → p (slice_index_or xs k d) ≡ false
    → find p (take (k + 1) xs) ≡ None
find_next p [] k d inside before here = absurd (omega arith)
find_next p (x ∷ xs) zero d inside before here = rw here refl
find_next p (x ∷ xs) (suc k) d inside before here =
    let next : suc k + 1 ≡ suc (k + 1) = omega arith in
    ap (λ n. find p (take n (x ∷ xs))) next
    ∙ passed_over (p x) x (find p (take k xs)) (find p (take (k + 1) xs)) before (λ none. find_next p xs k d (omega arith) none here)

pub find_here : {A : Type 0} (p : A → Bool) (xs : List A) (k : ℕ) (d : A) → k < length xs → find p (take k xs) ≡ None → p (slice_index_or xs k d) ≡ true
    → find p xs ≡ Some (slice_index_or xs k d)
find_here p [] k d inside before here = absurd (omega arith)
find_here p (x ∷ xs) zero d inside before here = rw here refl
find_here p (x ∷ xs) (suc k) d inside before here =
    found_later (p x) x (slice_index_or xs k d) (find p (take k xs)) (find p xs) before (λ none. find_here p xs k d (omega arith) none here)

same_number : (a b : ℕ) → a ≡ b → not (a == b) ≡ false
same_number a b same = grind (arith, nat_tests)

other_number : (a b : ℕ) → a ≢ b → not (a == b) ≡ true
other_number a b other = grind (arith, nat_tests)

-- the link types of captures
abbrev pub links_of : List Capture → List ℕ
links_of captures = map (λ capture. link_type capture.link) (map file_of captures)

link_at : (captures : List Capture) (k : ℕ) (capture : Capture) → capture ≡ slice_index_or captures k capture
    → slice_index_or (links_of captures) k (link_type capture.link) ≡ link_type capture.link
link_at captures k capture is =
    get_or-map_same (λ (file : CaptureFile). link_type file.link) (map file_of captures) k (file_of capture)
    ∙ ap (λ (file : CaptureFile). link_type file.link) (get_or-map_same file_of captures k capture)
    ∙ ap (λ (c : Capture). link_type c.link) (sym is)

links_long : (captures : List Capture) → length (links_of captures) ≡ length captures
links_long captures = length-map (map file_of captures) (λ (file : CaptureFile). link_type file.link) ∙ length-map captures file_of

-- a capture of the first one's link type is passed over, and one of another is found
pub link_passed : (captures : List Capture) (k : ℕ) (capture : Capture) (first : ℕ) → k < length captures → capture ≡ slice_index_or captures k capture
    → link_type capture.link ≡ first
    → find (λ other. not (other == first)) (take k (links_of captures)) ≡ None → find (λ other. not (other == first)) (take (k + 1) (links_of captures)) ≡ None
link_passed captures k capture first inside is same before =
    find_next (λ other. not (other == first)) (links_of captures) k (link_type capture.link) (omega (arith, links_long captures)) before
    (ap (λ other. not (other == first)) (link_at captures k capture is) ∙ same_number (link_type capture.link) first same)

pub link_found : (captures : List Capture) (k : ℕ) (capture : Capture) (first : ℕ) → k < length captures → capture ≡ slice_index_or captures k capture
    → link_type capture.link ≢ first
    → find (λ other. not (other == first)) (take k (links_of captures)) ≡ None
    → find (λ other. not (other == first)) (links_of captures) ≡ Some (link_type capture.link)
link_found captures k capture first inside is differ before =
    let there = link_at captures k capture is in
    find_here (λ other. not (other == first)) (links_of captures) k (link_type capture.link) (omega (arith, links_long captures)) before
    (ap (λ other. not (other == first)) there ∙ other_number (link_type capture.link) first differ)
    ∙ ap (λ n. Some n) there

pub first_link_is : (captures : List Capture) (d : Capture) → 0 < length captures → first_link (map file_of captures) ≡ (slice_index_or captures 0 d).link
first_link_is [] d some = absurd (omega arith)
first_link_is (capture ∷ captures) d some = refl

pub mixed_are : (captures : List Capture) (first other : ℕ) → first ≡ link_type (first_link (map file_of captures))
    → find (λ o. not (o == first)) (links_of captures) ≡ Some other
    → mixed_links (map file_of captures) ≡ Some (MixedLink first other)
mixed_are captures first other is found =
    let own = link_type (first_link (map file_of captures)) in
    let found' : find (λ o. not (o == own)) (links_of captures) ≡ Some other =
    subst (λ f. find (λ o. not (o == f)) (links_of captures) ≡ Some other) is found in
    ap (option_map (MixedLink own)) found' ∙ ap (λ f. Some (MixedLink f other)) (sym is)
