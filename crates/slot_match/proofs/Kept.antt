-- The fields of a match: at first, and after some pairs were added.
use Rattle.std.proofs.Common.{◌≡◌, ◌≢◌, ℕ, zero, ◌+◌, ◌^◌, ◌<◌, ◌≤◌, ◌↔◌, ◌∙◌, List, Option, None, Some, length, take, count_by}
use Rattle.std.proofs.Common.{is_some, refl, sym, ap, subst, inl, inr, arith}
use Rattle.std.proofs.lemmas.Bool.{cases_lt}
use Rattle.std.proofs.lemmas.Option.{none-some}
use Rattle.std.proofs.lemmas.List.{get_or-replicate, get_or_past, length-replicate, length-take-le, take-replicate}
use Rattle.std.proofs.lemmas.List.Sums.{count_by-le-length}
use Rattle.rotating_pick.specs.PortSets.{Has}
use Rattle.rotating_pick.specs.declared.kinds.Kind.{Kind}
use Rattle.rotating_pick.specs.declared.kinds.Kind.TheVariants.{Multi}
use Rattle.rotating_pick.specs.declared.limits.TheConstants.{LEVELS, MAX_PORTS}
use Rattle.slot_match.specs.declared.matching.Fed.{Fed}
use Rattle.slot_match.specs.Matches.{unmatched, fed_of, Serves, IsServed, IsMulticasting, IsMatch, MayAdd}
use Rattle.slot_match.specs.FieldSteps.{AreSets, AreKept}
use Rattle.slot_match.proofs.Pairs.{Serves-from, Serves-once, Serves-alike, Serves-along, fed_of-lt}
use Rattle.slot_match.proofs.Tables.{fed_of-take, fed_of-past, count_by-take}
use Rattle.slot_match.proofs.Adding.{IsAdded, IsMatch-added, AreSets-added}

-- nothing is fed at first
pub fed_of-unmatched : (n j : ℕ) → fed_of (unmatched n) j ≡ None
fed_of-unmatched n j =
    let nothing : Option Fed = None in
    elim (cases_lt j n) [
      | inl below ↦ get_or-replicate n j nothing nothing below
      | inr above ↦ get_or_past (unmatched n) j nothing (let long : length (unmatched n) ≡ n = length-replicate n nothing in omega arith)
    ]

pub nobody_at_first : (n i j level : ℕ) (kind : Kind) → Serves (unmatched n) i j level kind → ⊥
nobody_at_first n i j level kind s = none-some (record { input = i; level = level; kind = kind }) (sym (fed_of-unmatched n j) ∙ s)

pub IsMatch-unmatched : (n : ℕ) → IsMatch n (unmatched n)
IsMatch-unmatched n =
    let nothing : Option Fed = None in
    record {
      count = length-replicate n nothing;
      input_in = λ i j level kind s. absurd (nobody_at_first n i j level kind s);
      level_in = λ i j level kind s. absurd (nobody_at_first n i j level kind s);
      once = λ i j level kind k other again s r. absurd (nobody_at_first n i j level kind s);
    }

pub AreKept-new : (n : ℕ) (fed : List (Option Fed)) (inputs outputs : ℕ) → 0 < n → n ≤ MAX_PORTS → fed ≡ unmatched MAX_PORTS
    → ((x : ℕ) → Has inputs x ↔ (x < n)) → ((x : ℕ) → Has outputs x ↔ (x < n)) → AreKept n fed 0 inputs outputs
AreKept-new n fed inputs outputs some size e all_inputs all_outputs =
    let nothing : Option Fed = None in
    let front : take n fed ≡ unmatched n = ap (take n) e ∙ take-replicate n MAX_PORTS nothing size in
    let sets : AreSets n (unmatched n) 0 inputs outputs = record {
      some = some;
      size = size;
      whole = IsMatch-unmatched n;
      counts = count_zero n;
      inputs_left = λ i. (λ has. ((all_inputs i).0 has, nobody_at_first n i), λ p. (all_inputs i).1 p.0);
      outputs_left = λ j. (λ has. ((all_outputs j).0 has, fed_of-unmatched n j), λ p. (all_outputs j).1 p.0);
    } in
    record {
      long = ap length e ∙ length-replicate MAX_PORTS nothing;
      beyond = λ j above. ap (λ m. fed_of m j) e ∙ fed_of-unmatched MAX_PORTS j;
      sets = rw front sets;
    } where
      count_zero : (k : ℕ) → 0 ≡ count_by is_some (unmatched k)
      count_zero k = count_by-take zero (unmatched k) (λ j above. fed_of-unmatched k j)

module _ (n count : ℕ) (table : List (Option Fed)) (free_inputs free_outputs : ℕ) (kept : AreKept n table count free_inputs free_outputs) where
  long : n ≤ length table
  long = let e = kept.long in let size = kept.sets.size in omega arith

  -- the part of an input, from one of the outputs that it feeds
  pub IsServed-from_fan : (i fan j : ℕ) (f : Fed) → ((y : ℕ) → Has fan y ↔ ((level : ℕ) × (kind : Kind) × Serves (take n table) i y level kind)) → Has fan j
      → fed_of table j ≡ Some f → IsServed (take n table) i (record { outputs = fan; level = f.level; kind = f.kind })
  IsServed-from_fan i fan j f feeds has e =
      let m = take n table in
      let whole = kept.sets.whole in
      let there = (feeds j).0 has in
      let lt = fed_of-lt m j (record { input = i; level = there.0; kind = there.1 }) there.2 in
      let below : j < n = let count = whole.count in omega arith in
      let fed : fed_of m j ≡ Some f = fed_of-take n table j below ∙ e in
      let once = Serves-once m j i f.input there.0 f.level there.1 f.kind there.2 (Serves-from m j f fed) in
      let mine : Serves m i j f.level f.kind = Serves-along m i j there.0 f.level there.1 f.kind once.1 once.2 there.2 in
      let all = Serves-alike n m whole i j f.level f.kind mine in
      record {
        some = (j, has);
        outputs = λ y. (
          λ h. let s = (feeds y).0 h in let alike = all y s.0 s.1 s.2 in
              Serves-along m i y s.0 f.level s.1 f.kind alike.0 alike.1 s.2,
          λ s. (feeds y).1 (f.level, f.kind, s),
        );
        only = all;
      }

  -- an input goes on at the level where it feeds some output as multicast of it
  pub Serves-iff_multicasting : (i level : ℕ) → ((j : ℕ) × Serves table i j level Multi) ↔ IsMulticasting (take n table) i level
  Serves-iff_multicasting i level =
      let f : Fed = record { input = i; level = level; kind = Multi } in (
        λ s.
            let below : s.0 < n = elim (cases_lt s.0 n) [ inl lt ↦ lt | inr above ↦ absurd (none-some f (sym (kept.beyond s.0 above) ∙ s.1)) ] in
            let mine : Serves (take n table) i s.0 level Multi = fed_of-take n table s.0 below ∙ s.1 in
            record { some = (s.0, mine); only = Serves-alike n (take n table) kept.sets.whole i s.0 level Multi mine },
        λ on.
            let lt = fed_of-lt (take n table) on.some.0 f on.some.1 in
            let below : on.some.0 < n = let count = kept.sets.whole.count in omega arith in
            (on.some.0, sym (fed_of-take n table on.some.0 below) ∙ on.some.1),
      )

  -- the outputs that are fed at the level with the kind, found by what is free and by marks of the outputs that are fed
  pub Has-fed_alike : (marked fan level : ℕ) (kind : Kind)
      → ((j : ℕ) (f : Fed) → fed_of table j ≡ Some f → Has marked j ↔ ((f.level ≡ level) × (f.kind ≡ kind)))
      → ((j : ℕ) → Has fan j ↔ (((j < n) × (Has free_outputs j → ⊥)) × Has marked j))
      → (j : ℕ) → Has fan j ↔ ((i : ℕ) × Serves (take n table) i j level kind)
  Has-fed_alike marked fan level kind marks fans j = (
    λ has.
        let p = (fans j).0 has in
        let m = take n table in
        let fed = is_fed (fed_of m j) (λ none. p.0.1 ((kept.sets.outputs_left j).1 (p.0.0, none))) in
        let e : fed_of table j ≡ Some fed.0 = sym (fed_of-take n table j p.0.0) ∙ fed.1 in
        let alike = (marks j fed.0 e).0 p.1 in
        (fed.0.input, Serves-along m fed.0.input j fed.0.level level fed.0.kind kind alike.0 alike.1 (Serves-from m j fed.0 fed.1)),
    λ s.
        let f : Fed = record { input = s.0; level = level; kind = kind } in
        let lt = fed_of-lt (take n table) j f s.1 in
        let below : j < n = let count = kept.sets.whole.count in omega arith in
        let e : fed_of table j ≡ Some f = sym (fed_of-take n table j below) ∙ s.1 in
        (fans j).1 ((below, λ free. none-some f (sym ((kept.sets.outputs_left j).0 free).1 ∙ s.1)), (marks j f e).1 (refl, refl)),
  ) where
    is_fed : (o : Option Fed) → (o ≡ None → ⊥) → (f : Fed) × (o ≡ Some f)
    is_fed None some = absurd (some refl)
    is_fed (Some f) some = (f, refl)

  module _ (now : List (Option Fed)) (view : take n table ≡ now) (input outputs level : ℕ) (kind : Kind) (input_in : input < length now)
      (level_in : level < LEVELS) (may : MayAdd (length now) now input outputs level kind) (after : List (Option Fed)) (more : ℕ)
      (after_long : length after ≡ MAX_PORTS) (fed : (j : ℕ) → Has outputs j → fed_of after j ≡ Some (record { input = input; level = level; kind = kind }))
      (stays : (j : ℕ) → (Has outputs j → ⊥) → fed_of after j ≡ fed_of table j) (counted : count_by is_some after ≡ count_by is_some table + more) where
    ports : length now ≡ n
    ports = sym (ap length view) ∙ kept.sets.whole.count

    may_here : MayAdd n (take n table) input outputs level kind
    may_here = let P : ℕ → Type 0 = λ k. MayAdd k now input outputs level kind in
        subst (λ m. MayAdd n m input outputs level kind) (sym view) (subst P ports may)

    outside : (j : ℕ) → n ≤ j → Has outputs j → ⊥
    outside j above has = let below = (may_here.free j has).0 in absurd (omega arith)

    beyond : (j : ℕ) → n ≤ j → fed_of after j ≡ None
    beyond j above = stays j (outside j above) ∙ kept.beyond j above

    after_reaches : n ≤ length after
    after_reaches = let size = kept.sets.size in omega arith

    added : IsAdded (take n table) (take n after) input outputs level kind
    added =
        record {
          count = length-take-le n after after_reaches ∙ sym kept.sets.whole.count;
          fed = λ j has. let below = (may_here.free j has).0 in fed_of-take n after j below ∙ fed j has;
          stays = λ j lacks. elim (cases_lt j n) [
            | inl below ↦ fed_of-take n after j below ∙ (stays j lacks ∙ sym (fed_of-take n table j below))
            | inr above ↦ fed_of-past n after j after_reaches above ∙ sym (fed_of-past n table j long above)
          ];
        }

    counts : count_by is_some (take n after) ≡ count_by is_some (take n table) + more
    counts = count_by-take n after beyond ∙ (counted ∙ ap (λ c. c + more) (sym (count_by-take n table kept.beyond)))

    pub count_fits : count + more < 2 ^ 32
    count_fits =
        let most = count_by-le-length is_some after in
        let here = kept.sets.counts in
        let whole = count_by-take n table kept.beyond in
        omega arith

    pub AreKept-added : (later_inputs later_outputs : ℕ) → ((i : ℕ) → Has later_inputs i ↔ ((i ≢ input) × Has free_inputs i))
        → ((j : ℕ) → Has later_outputs j ↔ (Has free_outputs j × (Has outputs j → ⊥)))
        → AreKept n after (count + more) later_inputs later_outputs
    AreKept-added later_inputs later_outputs inputs outs =
        let input_here : input < n = let size = ports in omega arith in
        record {
          long = after_long;
          beyond = beyond;
          sets = AreSets-added n (take n table)
              (take n after) input outputs level kind kept.sets.whole may_here input_here level_in added count more free_inputs later_inputs free_outputs
              later_outputs kept.sets counts inputs outs;
        }

    -- the new match, as callers see it
    pub after_count : length (take n after) ≡ length now
    after_count = added.count ∙ ap length view

    pub after_stays : (j : ℕ) → (Has outputs j → ⊥) → fed_of (take n after) j ≡ fed_of now j
    after_stays j lacks = added.stays j lacks ∙ ap (λ m. fed_of m j) view

    pub after_fed : (j : ℕ) → Has outputs j → Serves (take n after) input j level kind
    after_fed j has = added.fed j has

    pub after_whole : IsMatch (length (take n after)) (take n after)
    after_whole =
        let input_here : input < n = let size = ports in omega arith in
        let whole = IsMatch-added n (take n table) (take n after) input outputs level kind kept.sets.whole may_here input_here level_in added in
        let P : ℕ → Type 0 = λ k. IsMatch k (take n after) in
        subst P (sym whole.count) whole
