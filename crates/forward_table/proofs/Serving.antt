-- The line that serves an address is one of the table.
use Rattle.std.proofs.Common.{◌≡◌, ℕ, Bool, List, [], ◌∷◌, map, Option, None, Some, find, refl, ap, subst, ◌∙◌, inl, inr, arith}
use Rattle.std.specs.Prelude.{All, Contains, nat_lt}
use Rattle.std.specs.Option.{option_or}
use Rattle.std.proofs.lemmas.Bool.{cases_Bool}
use Rattle.std.proofs.lemmas.List.{length-map, get_or-map}
use Rattle.std.proofs.lemmas.List.Elements.{All-head, All-tail, All-filter, All-contains_itself}
use Rattle.forward_table.specs.declared.route_lines.Target.TheVariants.{Fallback}
use Rattle.forward_table.specs.declared.route_lines.RouteLine.{RouteLine}
use Rattle.forward_table.specs.Targets.{is_same_target, covers, length_of}
use Rattle.forward_table.specs.Reading.{line_with}
use Rattle.forward_table.specs.Routing.{longer, longest, covering, serving_line}

module _ (P : RouteLine → Type 0) where
  found_has : (p : RouteLine → Bool) (table : List RouteLine) (line : RouteLine) → All P table → find p table ≡ Some line → P line
  found_has p [] line all e = absurd cc
  found_has p (first ∷ more) line all e =
      elim (cases_Bool (p first)) [
        | inl passes ↦ let found = rw passes at e in let same : first ≡ line = cc in subst P same (All-head P first more all)
        | inr fails ↦ found_has p more line (All-tail P first more all) (rw fails at e)
      ]

  longer_has : (line : RouteLine) (other : Option RouteLine) → P line → ((o : RouteLine) → other ≡ Some o → P o) → P (longer line other)
  longer_has line None has rest = has
  longer_has line (Some other) has rest =
      elim (cases_Bool (nat_lt (length_of line.target) (length_of other.target))) [
        | inl passes ↦ rw passes (rest other refl)
        | inr fails ↦ rw fails has
      ]

  longest_has : (table : List RouteLine) (line : RouteLine) → All P table → longest table ≡ Some line → P line
  longest_has [] line all e = absurd cc
  longest_has (first ∷ more) line all e =
      let same : longer first (longest more) ≡ line = cc in
      subst P same (longer_has first (longest more) (All-head P first more all) (λ other e'. longest_has more other (All-tail P first more all) e'))

  either_has : (a b : Option RouteLine) (line : RouteLine) → ((l : RouteLine) → a ≡ Some l → P l) → ((l : RouteLine) → b ≡ Some l → P l)
      → option_or a b ≡ Some line → P line
  either_has None b line first second e = second line e
  either_has (Some a) b line first second e = first line e

  serving_has : (table : List RouteLine) (address : Option ℕ) (line : RouteLine) → All P table → serving_line table address ≡ Some line → P line
  serving_has table None line all e = found_has (λ l. is_same_target l.target Fallback) table line all e
  serving_has table (Some address) line all e =
      either_has (longest (covering table address)) (line_with Fallback table) line
      (λ l e'. longest_has (covering table address) l (All-filter (λ m. covers address m.target) P table all) e')
      (λ l e'. found_has (λ m. is_same_target m.target Fallback) table l all e')
      e

-- so its route is one of the table's
pub Contains-serving : (table : List RouteLine) (address : Option ℕ) (line : RouteLine) → serving_line table address ≡ Some line
    → Contains (map (λ l. l.route) table) line.route
Contains-serving table address line e =
    let there : Contains table line = serving_has (Contains table) table address line (All-contains_itself table) e in (
      there.0,
      omega (arith, there.1, length-map table (λ (l : RouteLine). l.route)),
      get_or-map (λ (l : RouteLine). l.route) table there.0 line line.route there.1 ∙ ap (λ (l : RouteLine). l.route) there.2,
    )
