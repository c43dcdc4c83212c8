-- A match that gains some pairs of one input.
use Rattle.std.proofs.Common.{◌≡◌, ◌≢◌, ℕ, ◌+◌, ◌<◌, ◌↔◌, ◌⊎◌, ◌∙◌, List, Option, length, count_by, is_some, refl, sym, ap, subst, inl, inr}
use Rattle.std.proofs.lemmas.Bool.{cases_eq}
use Rattle.std.proofs.lemmas.Option.{none-some}
use Rattle.rotating_pick.specs.PortSets.{Has}
use Rattle.rotating_pick.specs.declared.kinds.Kind.{Kind}
use Rattle.rotating_pick.specs.declared.kinds.Kind.TheVariants.{Uni, Multi}
use Rattle.rotating_pick.specs.declared.limits.TheConstants.{LEVELS}
use Rattle.slot_match.specs.declared.matching.Fed.{Fed}
use Rattle.slot_match.specs.Matches.{fed_of, Serves, IsFreeInput, IsFreeOutput, IsMatch, MayAdd}
use Rattle.slot_match.specs.FieldSteps.{AreSets}
use Rattle.slot_match.proofs.Sets.{Has-or}
use Rattle.slot_match.proofs.Pairs.{kinds_decide, Serves-once, Serves-along}

-- the match gains these pairs, and keeps what it had
pub record IsAdded (old new : List (Option Fed)) (input outputs level : ℕ) (kind : Kind) : Type 0 where
  pub count : length new ≡ length old
  pub fed : (j : ℕ) → Has outputs j → Serves new input j level kind
  pub stays : (j : ℕ) → (Has outputs j → ⊥) → fed_of new j ≡ fed_of old j

module _ (n : ℕ) (old new : List (Option Fed)) (input outputs level : ℕ) (kind : Kind) (whole : IsMatch n old) (may : MayAdd n old input outputs level kind)
    (input_in : input < n) (level_in : level < LEVELS) (added : IsAdded old new input outputs level kind) where
  -- a pair of the new match is an old one or one of these
  pub Serves-added : (i j l : ℕ) (k : Kind) → Serves new i j l k ↔ (Serves old i j l k ⊎ ((i ≡ input) × Has outputs j × (l ≡ level) × (k ≡ kind)))
  Serves-added i j l k = elim (Has-or outputs j) [
    | inl has ↦ (
      λ s. let once = Serves-once new j i input l level k kind s (added.fed j has) in inr (once.0, has, once.1, once.2),
      λ s. elim s [
        | inl before ↦ absurd (none-some (record { input = i; level = l; kind = k }) (sym (may.free j has).1 ∙ before))
        | inr p ↦ let P : ℕ → Type 0 = λ x. Serves new x j l k in
            subst P (sym p.0) (Serves-along new input j level l kind k (sym p.2) (sym p.3) (added.fed j has))
      ],
    )
    | inr lacks ↦ (λ s. inl (sym (added.stays j lacks) ∙ s), λ s. elim s [ inl before ↦ added.stays j lacks ∙ before | inr p ↦ absurd (lacks p.1) ])
  ]

  kept : (i j l : ℕ) (k : Kind) → Serves old i j l k → Serves new i j l k
  kept i j l k s = (Serves-added i j l k).1 (inl s)

  -- an input that had a pair goes on
  goes_on : (j l : ℕ) (k : Kind) → Serves old input j l k → (l ≡ level) × (k ≡ Multi) × (kind ≡ Multi)
  goes_on j l k s = elim may.ready [ inl free ↦ absurd (free j l k s) | inr p ↦ let only = p.1.only j l k s in (only.0, only.1, p.0) ]

  -- all pairs of the input are at the level with the kind
  mine_alike : (j l : ℕ) (k : Kind) → Serves new input j l k → (l ≡ level) × (k ≡ kind)
  mine_alike j l k s = elim ((Serves-added input j l k).0 s) [ inl before ↦ let on = goes_on j l k before in (on.0, on.1 ∙ sym on.2) | inr p ↦ (p.2, p.3) ]

  twice : (j k : ℕ) → Serves new input j level kind → Serves new input k level kind → (j ≡ k) ⊎ ((level ≡ level) × (kind ≡ Multi) × (kind ≡ Multi))
  twice j k s r = elim (kinds_decide kind Multi) [
    | inl multi ↦ inr (refl, multi, multi)
    | inr other ↦ elim ((Serves-added input j level kind).0 s) [
      | inl before ↦ absurd (other (goes_on j level kind before).2)
      | inr p ↦ elim ((Serves-added input k level kind).0 r) [
        | inl before ↦ absurd (other (goes_on k level kind before).2)
        | inr q ↦ inl (may.one (only_uni kind other) j k p.1 q.1)
      ]
    ]
  ] where
    only_uni : (a : Kind) → (a ≡ Multi → ⊥) → a ≡ Uni
    only_uni Uni h = refl
    only_uni Multi h = absurd (h refl)

  pub IsMatch-added : IsMatch n new
  IsMatch-added =
      record {
        count = added.count ∙ whole.count;
        input_in = λ i j l k s. elim
            ((Serves-added i j l k).0 s) [ inl before ↦ whole.input_in i j l k before | inr p ↦ subst (λ x. x < n) (sym p.0) input_in ];
        level_in = λ i j l k s. elim
            ((Serves-added i j l k).0 s) [ inl before ↦ whole.level_in i j l k before | inr p ↦ subst (λ x. x < LEVELS) (sym p.2) level_in ];
        once = λ i j l k y m q s r. elim (cases_eq i input) [
          | inl same ↦
              let P : ℕ → Type 0 = λ x. Serves new x j l k in
              let Q : ℕ → Type 0 = λ x. Serves new x y m q in
              let s_mine : Serves new input j l k = subst P same s in
              let r_mine : Serves new input y m q = subst Q same r in
              let a = mine_alike j l k s_mine in
              let b = mine_alike y m q r_mine in
              elim (twice j y (Serves-along new input j l level k kind a.0 a.1 s_mine) (Serves-along new input y m level q kind b.0 b.1 r_mine)) [
                | inl one ↦ inl one
                | inr multi ↦ inr (a.0 ∙ sym b.0, a.1 ∙ multi.1, b.1 ∙ multi.1)
              ]
          | inr other ↦ elim ((Serves-added i j l k).0 s) [
            | inr p ↦ absurd (other p.0)
            | inl s_old ↦ elim ((Serves-added i y m q).0 r) [ inr p ↦ absurd (other p.0) | inl r_old ↦ whole.once i j l k y m q s_old r_old ]
          ]
        ];
      }

  -- the free inputs
  pub IsFreeInput-added : (i : ℕ) → IsFreeInput new i ↔ ((i ≢ input) × IsFreeInput old i)
  IsFreeInput-added i = (
    λ free. (
      λ same. let P : ℕ → Type 0 = IsFreeInput new in subst P same free may.some.0 level kind (added.fed may.some.0 may.some.1),
      λ j l k s. free j l k (kept i j l k s),
    ),
    λ p j l k s. elim ((Serves-added i j l k).0 s) [ inl before ↦ p.1 j l k before | inr q ↦ p.0 q.0 ],
  )

  -- the free outputs
  pub IsFreeOutput-added : (j : ℕ) → IsFreeOutput new j ↔ (IsFreeOutput old j × (Has outputs j → ⊥))
  IsFreeOutput-added j = elim (Has-or outputs j) [
    | inl has ↦ (λ free. absurd (none-some (record { input = input; level = level; kind = kind }) (sym free ∙ added.fed j has)), λ p. absurd (p.1 has))
    | inr lacks ↦ (λ free. (sym (added.stays j lacks) ∙ free, lacks), λ p. added.stays j lacks ∙ p.0)
  ]

  -- what is kept beside the match follows it
  pub AreSets-added : (count more : ℕ) (free_inputs later_inputs free_outputs later_outputs : ℕ)
      → AreSets n old count free_inputs free_outputs → count_by is_some new ≡ count_by is_some old + more
      → ((i : ℕ) → Has later_inputs i ↔ ((i ≢ input) × Has free_inputs i)) → ((j : ℕ) → Has later_outputs j ↔ (Has free_outputs j × (Has outputs j → ⊥)))
      → AreSets n new (count + more) later_inputs later_outputs
  AreSets-added count more free_inputs later_inputs free_outputs later_outputs sets counted inputs outs =
      record {
        some = sets.some;
        size = sets.size;
        whole = IsMatch-added;
        counts = ap (λ c. c + more) sets.counts ∙ sym counted;
        inputs_left = λ i. (
          λ has. let p = (inputs i).0 has in let q = (sets.inputs_left i).0 p.1 in (q.0, (IsFreeInput-added i).1 (p.0, q.1)),
          λ p. let q = (IsFreeInput-added i).0 p.1 in (inputs i).1 (q.0, (sets.inputs_left i).1 (p.0, q.1)),
        );
        outputs_left = λ j. (
          λ has. let p = (outs j).0 has in let q = (sets.outputs_left j).0 p.0 in (q.0, (IsFreeOutput-added j).1 (q.1, p.1)),
          λ p. let q = (IsFreeOutput-added j).0 p.1 in (outs j).1 ((sets.outputs_left j).1 (p.0, q.0), q.1),
        );
      }
