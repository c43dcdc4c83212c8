-- How many packets went by each flow of an input, and one packet more.
use Rattle.std.proofs.Common.{◌≡◌, ◌≢◌, ◌∙◌, ℕ, zero, suc, ◌+◌, ◌<◌, ◌≤◌, List, [], ◌∷◌, length, slice_index, slice_set}
use Rattle.std.proofs.Common.{refl, sym, ap, subst, arith, inl, inr, get_or-set_same, get_or-set_other, length-set}
use Rattle.std.specs.Int.{bit_at}
use Rattle.std.specs.List.{fold}
use Rattle.std.proofs.lemmas.Bool.{cases_eq}
use Rattle.std.proofs.lemmas.List.Sums.{fold-append}
use Rattle.rotating_pick.specs.declared.kinds.Kind.{Kind}
use Rattle.rotating_pick.specs.declared.limits.TheConstants.{LEVELS, MAX_PORTS}
use Rattle.rotating_pick.specs.PortSets.{Has}
use Rattle.card_core.specs.declared.plan.Planned.{Planned}
use Rattle.card_core.specs.Plans.{kind_of, queue_of}
use Rattle.packet_times.specs.declared.flow_counts.TheConstants.{MOST_FLOWS}
use Rattle.packet_times.specs.Rows.{outputs_in}
use Rattle.packet_times.specs.WalkingSteps.{own_place, one_more, with_one, IsCounted}
use Rattle.packet_times.specs.KeptSteps.{counts_with}
use Rattle.packet_times.proofs.Places.{kind_few}
use Rattle.packet_times.proofs.Rowing.{outputs-yes, outputs-no}

-- the second outputs are the first ones and output n, which is none of these
record AddsOutput (to more : ℕ → Type 0) (n : ℕ) : Type 0 where
  pub fresh : to n → ⊥
  pub mine : more n
  pub earlier : (j : ℕ) → j ≢ n → more j → to j
  pub kept : (j : ℕ) → to j → more j

module _ (level : ℕ) (kind : Kind) (old : List ℕ) where
  -- no output
  counted-first : (to : ℕ → Type 0) → ((j : ℕ) → to j → ⊥) → IsCounted to level kind old old
  counted-first to none = record { long = refl; here = λ j is. absurd (none j is); others = λ place apart. refl }

  -- one output more
  counted-more : (to more : ℕ → Type 0) (n : ℕ) (now : List ℕ) → own_place n level kind < length old → AddsOutput to more n
      → IsCounted to level kind old now → IsCounted more level kind old (with_one now (own_place n level kind))
  counted-more to more n now inside adds were =
      let own = own_place n level kind in
      let new = one_more (slice_index now own) in
      let before : slice_index now own ≡ slice_index old own =
      were.others own (λ j is same. adds.fresh (subst to (omega (arith, same)) is)) in
      record {
        long = length-set now own new ∙ were.long;
        here = λ j is. elim (cases_eq j n) [
          | inl e ↦
              ap (λ k. slice_index (slice_set now own new) (own_place k level kind)) e
              ∙ get_or-set_same now own new 0 (let long = were.long in omega arith)
              ∙ ap one_more before
              ∙ ap (λ k. one_more (slice_index old (own_place k level kind))) (sym e)
          | inr ne ↦ get_or-set_other now own (own_place j level kind) new 0 (λ same. ne (omega (arith, same))) ∙ were.here j (adds.earlier j ne is)
        ];
        others = λ place none. get_or-set_other now own place new 0 (none n adds.mine) ∙ were.others place (λ j is. none j (adds.kept j is));
      }

  -- the same outputs, said in another way
  counted-as : (to same : ℕ → Type 0) (now : List ℕ) → ((j : ℕ) → to j → same j) → ((j : ℕ) → same j → to j) → IsCounted to level kind old now
      → IsCounted same level kind old now
  counted-as to same now into back were = record {
    long = were.long;
    here = λ j is. were.here j (back j is);
    others = λ place none. were.others place (λ j is. none j (into j is));
  }

-- a packet at its flow to each of its outputs
module _ (p : Planned) (old : List ℕ) (low : p.level < LEVELS) (long : length old ≡ MOST_FLOWS) where
  abbrev kind : Kind
  kind = kind_of (queue_of p)

  abbrev add : List ℕ → ℕ → List ℕ
  add now j = with_one now (own_place j p.level kind)

  abbrev To : ℕ → ℕ → Type 0
  To n j = Has p.fan j × (j < n)

  counted-to : (n : ℕ) → n ≤ MAX_PORTS → IsCounted (To n) p.level kind old (fold add old (outputs_in n p.fan))
  counted-to zero few = counted-first p.level kind old (To 0) (λ j is. let below = is.1 in absurd (omega arith))
  counted-to (suc n) few =
      let next : suc n ≡ n + 1 = omega arith in
      let now = fold add old (outputs_in n p.fan) in
      let were = counted-to n (omega arith) in
      let size = kind_few kind in
      subst (λ m. IsCounted (To m) p.level kind old (fold add old (outputs_in m p.fan))) (sym next)
      (elim (cases_eq (bit_at p.fan n) 1) [
        | inl there ↦
            subst (IsCounted (To (n + 1)) p.level kind old)
            (sym (ap (fold add old) (outputs-yes p.fan n there) ∙ fold-append add old (outputs_in n p.fan) (n ∷ [])))
            (counted-more p.level kind old (To n) (To (n + 1)) n now (omega (arith, size, low, long))
            (record {
              fresh = λ is. let below = is.1 in absurd (omega arith);
              mine = (there, omega arith);
              earlier = λ j ne is. let below = is.1 in (is.0, omega arith);
              kept = λ j is. let below = is.1 in (is.0, omega arith);
            }) were)
        | inr none ↦
            subst (IsCounted (To (n + 1)) p.level kind old) (sym (ap (fold add old) (outputs-no p.fan n none)))
            (counted-as p.level kind old (To n) (To (n + 1)) now (λ j is. let below = is.1 in (is.0, omega arith))
            (λ j is. (is.0, apart j n p.fan none is.0 is.1)) were)
      ]) where
        apart : (j m fan : ℕ) → (Has fan m → ⊥) → Has fan j → j < m + 1 → j < m
        apart j m fan none has below = elim (cases_eq j m) [
          | inl e ↦ absurd (none (subst (Has fan) e has))
          | inr ne ↦ omega arith
        ]

  pub counted-all : ((j : ℕ) → Has p.fan j → j < MAX_PORTS) → IsCounted (Has p.fan) p.level kind old (counts_with p old)
  counted-all inside = counted-as p.level kind old (To MAX_PORTS) (Has p.fan) (counts_with p old) (λ j is. is.0) (λ j has. (has, inside j has))
      (counted-to MAX_PORTS (omega arith))
