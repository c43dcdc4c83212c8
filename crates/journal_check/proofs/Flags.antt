-- Which sets of a row are not empty, as the bits of a byte.
use Rattle.std.proofs.Common.{◌≡◌, ◌↔◌, ◌⊎◌, ℕ, ◌-◌, ◌<◌, ◌≤◌, ◌==◌, ◌∙◌, not, true, length, slice_index, sym, ap, inl, inr, arith}
use Rattle.std.proofs.lemmas.Bool.{cases_lt}
use Rattle.std.proofs.lemmas.List.{get_or_append_left, get_or-append_right}
use Rattle.std_lemmas.proofs.Numbers.{from_not_zero, not_zero}
use Rattle.rotating_pick.specs.PortSets.{Has}
use Rattle.rotating_pick.proofs.Bits.{no_member-zero}
use Rattle.slot_match.specs.declared.rows.Row.{Row}
use Rattle.slot_match.proofs.Sets.{Has-same, Has-set_of, set_of-lt}
use Rattle.journal_check.specs.Texts.{all_sets, sets_there}
use Rattle.journal_check.specs.Steps.{IsFlag}

module _ (row : Row) (unicast bits : ℕ) (uni_long : length row.uni ≡ 4) (first : (k : ℕ) → Has unicast k ↔ (Has 0 k ⊎ IsFlag row.uni 0 4 k))
    (second : (k : ℕ) → Has bits k ↔ (Has unicast k ⊎ IsFlag row.multi 4 4 k)) where
  low : (k : ℕ) → k < 4 → slice_index (all_sets row) k ≡ slice_index row.uni k
  low k below = get_or_append_left row.uni row.multi 0 k (omega arith)

  high : (k : ℕ) → 4 ≤ k → slice_index (all_sets row) k ≡ slice_index row.multi (k - 4)
  high k above = get_or-append_right row.uni row.multi 4 k 0 uni_long above

  tells : (k : ℕ) → Has bits k ↔ ((k < 8) × (not (slice_index (all_sets row) k == 0) ≡ true))
  tells k = (
    λ has. elim ((second k).0 has) [
      | inl early ↦ elim ((first k).0 early) [
        | inl never ↦ absurd (no_member-zero k never)
        | inr flag ↦ let below = flag.below in let place : k - 0 ≡ k = omega arith in
            (omega arith, not_zero _ (λ none. flag.some (ap (slice_index row.uni) place ∙ sym (low k (omega arith)) ∙ none)))
      ]
      | inr flag ↦ let below = flag.below in (omega arith, not_zero _ (λ none. flag.some (sym (high k flag.from) ∙ none)))
    ],
    λ p.
        let below = p.0 in
        elim (cases_lt k 4) [
          | inl few ↦ let place : k - 0 ≡ k = omega arith in
              (second k).1 (inl ((first k).1
              (inr (record {
                from = omega arith;
                below = omega arith;
                some = λ none. from_not_zero _ p.1 (low k few ∙ sym (ap (slice_index row.uni) place) ∙ none);
              }))))
          | inr past ↦ (second k).1 (inr (record { from = past; below = omega arith; some = λ none. from_not_zero _ p.1 (high k past ∙ none) }))
        ],
  )

  pub flags_are : bits ≡ sets_there row
  flags_are = Has-same bits (sets_there row)
      (λ k. let of = Has-set_of 8 (λ (bit : ℕ). not (slice_index (all_sets row) bit == 0)) k in (λ has. of.1 ((tells k).0 has), λ has. (tells k).1 (of.0 has)))

  pub flags_fit : bits < 256
  flags_fit = let small = set_of-lt 8 (λ (bit : ℕ). not (slice_index (all_sets row) bit == 0)) in let same = flags_are in omega arith
