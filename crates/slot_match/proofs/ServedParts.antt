-- An input's part of a match, found from the first output that it feeds.
use Rattle.std.proofs.Common.{◌≡◌, ℕ, zero, suc, ◌↔◌, ◌∙◌, Bool, true, false, eqb, cond, List, [], ◌∷◌, Option, None, Some, length, refl, sym, ap}
use Rattle.std.proofs.Common.{subst, arith, tests}
use Rattle.std.specs.Option.{option_map}
use Rattle.std.proofs.lemmas.Bool.{eqb-true, eq-eqb}
use Rattle.std.proofs.lemmas.Option.{same_Some, none-some}
use Rattle.rotating_pick.specs.PortSets.{Has}
use Rattle.rotating_pick.specs.declared.kinds.Kind.{Kind}
use Rattle.slot_match.specs.declared.matching.Fed.{Fed}
use Rattle.slot_match.specs.declared.matching.Served.{Served}
use Rattle.slot_match.specs.Matches.{fed_of, Serves, IsFreeInput, IsServed, IsMatch}
use Rattle.slot_match.specs.Parts.{is_from, first_from, outputs_of, served_of}
use Rattle.slot_match.proofs.Sets.{Has-set_of, Has-same}
use Rattle.slot_match.proofs.Pairs.{Serves-from, Serves-alike, Serves-along, fed_of-lt, same_fed}

-- the test of what feeds an output
pub is_from-some : (i : ℕ) (o : Option Fed) → is_from i o ≡ true → (f : Fed) × (o ≡ Some f) × (f.input ≡ i)
is_from-some i None e = absurd (cc)
is_from-some i (Some f) e = (f, refl, eqb-true f.input i e)

pub is_from-true : (i : ℕ) (o : Option Fed) (f : Fed) → o ≡ Some f → f.input ≡ i → is_from i o ≡ true
is_from-true i None f e h = absurd (none-some f e)
is_from-true i (Some g) f e h = let same : g.input ≡ i = ap (λ x. x.input) (same_Some g f e) ∙ h in grind (arith, tests)

-- what is found feeds an output
first_from-found : (i : ℕ) (matched : List (Option Fed)) (f : Fed) → first_from i matched ≡ Some f → (j : ℕ) × (fed_of matched j ≡ Some f) × (f.input ≡ i)
first_from-found i [] f e = absurd (none-some f e)
first_from-found i (None ∷ rest) f e = let r = first_from-found i rest f e in (suc r.0, r.1, r.2)
first_from-found i (Some g ∷ rest) f e = go (λ h. first_from-found i rest f h) (eqb g.input i) refl e where
  go : (first_from i rest ≡ Some f → (j : ℕ) × (fed_of rest j ≡ Some f) × (f.input ≡ i)) → (b : Bool) → eqb g.input i ≡ b
      → cond b (Some g) (first_from i rest) ≡ Some f → (j : ℕ) × (fed_of (Some g ∷ rest) j ≡ Some f) × (f.input ≡ i)
  go later true same h = let one = same_Some g f h in let here : g.input ≡ i = eqb-true g.input i same in (zero, h, sym (ap (λ x. x.input) one) ∙ here)
  go later false other h = let r = later h in (suc r.0, r.1, r.2)

-- where nothing is found, the input feeds no output
first_from-none : (i : ℕ) (matched : List (Option Fed)) → first_from i matched ≡ None → (j : ℕ) (f : Fed) → fed_of matched j ≡ Some f → f.input ≡ i → ⊥
first_from-none i [] e j f h same = none-some f h
first_from-none i (None ∷ rest) e zero f h same = none-some f h
first_from-none i (None ∷ rest) e (suc j) f h same = first_from-none i rest e j f h same
first_from-none i (Some g ∷ rest) e j f h same = go (λ none k there. first_from-none i rest none k f there same) (eqb g.input i) refl e j h where
  go : (first_from i rest ≡ None → (k : ℕ) → fed_of rest k ≡ Some f → ⊥) → (b : Bool) → eqb g.input i ≡ b → cond b (Some g) (first_from i rest) ≡ None
      → (k : ℕ) → fed_of (Some g ∷ rest) k ≡ Some f → ⊥
  go later true here none k there = none-some g (sym none)
  go later false other none zero there = let one : g.input ≡ i = ap (λ x. x.input) (same_Some g f there) ∙ same in let both : eqb g.input i ≡ true =
      eq-eqb g.input i one in absurd (cc)
  go later false other none (suc k) there = later none k there

-- the outputs that an input feeds
Has-outputs_of : (n : ℕ) (matched : List (Option Fed)) → IsMatch n matched → (i j x level : ℕ) (kind : Kind) → Serves matched i x level kind
    → Has (outputs_of matched i) j ↔ Serves matched i j level kind
Has-outputs_of n matched whole i j x level kind there =
    let made = Has-set_of (length matched) (λ y. is_from i (fed_of matched y)) j in (
      λ has.
          let found = is_from-some i (fed_of matched j) (made.0 has).1 in
          let f = found.0 in
          let whole_fed : Fed = record { input = i; level = f.level; kind = f.kind } in
          let here : Serves matched i j f.level f.kind = found.1 ∙ ap Some (same_fed f whole_fed found.2 refl refl) in
          let alike = Serves-alike n matched whole i x level kind there j f.level f.kind here in
          Serves-along matched i j f.level level f.kind kind alike.0 alike.1 here,
      λ s.
          let f : Fed = record { input = i; level = level; kind = kind } in
          made.1 (fed_of-lt matched j f s, is_from-true i (fed_of matched j) f s refl),
    )

-- one part serves an input
pub IsServed-only : (matched : List (Option Fed)) (i : ℕ) (a b : Served) → IsServed matched i a → IsServed matched i b → a ≡ b
IsServed-only matched i a b x y =
    let there = (x.outputs x.some.0).0 x.some.1 in
    let alike = y.only x.some.0 a.level a.kind there in
    let sets : a.outputs ≡ b.outputs = Has-same a.outputs b.outputs
    (λ j. (
      λ has. (y.outputs j).1 (Serves-along matched i j a.level b.level a.kind b.kind alike.0 alike.1 ((x.outputs j).0 has)),
      λ has. (x.outputs j).1 (Serves-along matched i j b.level a.level b.kind a.kind (sym alike.0) (sym alike.1) ((y.outputs j).0 has)),
    )) in
    λ t. record { outputs = sets t; level = alike.0 t; kind = alike.1 t }

-- a free input has no part
pub served_of-free : (matched : List (Option Fed)) (i : ℕ) → IsFreeInput matched i → served_of matched i ≡ None
unfolding served_of
served_of-free matched i free = go (first_from i matched) refl where
  go : (o : Option Fed) → first_from i matched ≡ o
      → option_map (λ fed. let part : Served = record { outputs = outputs_of matched i; level = fed.level; kind = fed.kind } in part) o ≡ None
  go None e = refl
  go (Some f) e =
      let found = first_from-found i matched f e in
      let P : ℕ → Type 0 = λ x. Serves matched x found.0 f.level f.kind in
      absurd (free found.0 f.level f.kind (subst P found.2 (Serves-from matched found.0 f found.1)))

-- an input that is matched has the part that serves it
pub served_of-served : (n : ℕ) (matched : List (Option Fed)) → IsMatch n matched → (i j level : ℕ) (kind : Kind) → Serves matched i j level kind
    → (part : Served) × (served_of matched i ≡ Some part) × IsServed matched i part
unfolding served_of
served_of-served n matched whole i j level kind s = go (first_from i matched) refl where
  go : (o : Option Fed) → first_from i matched ≡ o → (part : Served)
      × (option_map (λ fed. let made : Served = record { outputs = outputs_of matched i; level = fed.level; kind = fed.kind } in made) o ≡ Some part)
      × IsServed matched i part
  go None e = absurd (first_from-none i matched e j (record { input = i; level = level; kind = kind }) s refl)
  go (Some f) e =
      let found = first_from-found i matched f e in
      let P : ℕ → Type 0 = λ x. Serves matched x found.0 f.level f.kind in
      let there : Serves matched i found.0 f.level f.kind = subst P found.2 (Serves-from matched found.0 f found.1) in
      let has = λ (y : ℕ). Has-outputs_of n matched whole i y found.0 f.level f.kind there in (
        record { outputs = outputs_of matched i; level = f.level; kind = f.kind },
        refl,
        record {
          some = (found.0, (has found.0).1 there);
          outputs = has;
          only = Serves-alike n matched whole i found.0 f.level f.kind there;
        },
      )

-- the part that serves an input is its part
pub served_of-only : (n : ℕ) (matched : List (Option Fed)) → IsMatch n matched → (i : ℕ) (part : Served) → IsServed matched i part
    → served_of matched i ≡ Some part
served_of-only n matched whole i part served =
    let there = (served.outputs served.some.0).0 served.some.1 in
    let found = served_of-served n matched whole i served.some.0 part.level part.kind there in
    found.1 ∙ ap Some (IsServed-only matched i found.0 part found.2 served)

-- what an input's part is
pub served_of-is : (n : ℕ) (matched : List (Option Fed)) → IsMatch n matched → (i : ℕ) (part : Served) → served_of matched i ≡ Some part
    → IsServed matched i part
unfolding served_of
served_of-is n matched whole i part e = go (first_from i matched) refl e where
  go : (o : Option Fed) → first_from i matched ≡ o
      → option_map (λ fed. let made : Served = record { outputs = outputs_of matched i; level = fed.level; kind = fed.kind } in made) o ≡ Some part
      → IsServed matched i part
  go None found h = absurd (none-some part h)
  go (Some f) found h =
      let first = first_from-found i matched f found in
      let P : ℕ → Type 0 = λ x. Serves matched x first.0 f.level f.kind in
      let s = served_of-served n matched whole i first.0 f.level f.kind (subst P first.2 (Serves-from matched first.0 f first.1)) in
      subst (IsServed matched i) (same_Some s.0 part (sym s.1 ∙ e)) s.2

-- an input without a part is free
pub served_of-none : (n : ℕ) (matched : List (Option Fed)) → IsMatch n matched → (i : ℕ) → served_of matched i ≡ None → IsFreeInput matched i
served_of-none n matched whole i e j level kind s = let found = served_of-served n matched whole i j level kind s in none-some found.0 (sym e ∙ found.1)
