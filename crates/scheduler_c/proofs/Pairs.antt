-- A match that is made output by output of words: where an output cannot be added, the words are no match.
use Rattle.std.proofs.Common.{◌≡◌, ℕ, ◌<◌, ◌≤◌, ◌↔◌, ◌⊎◌, ◌∙◌, List, Option, None, Some, length, slice_index_or, refl, sym, subst, inl, inr, arith}
use Rattle.std.proofs.lemmas.Bool.{cases_lt}
use Rattle.std.proofs.lemmas.List.{ext_get_or, length-map}
use Rattle.std.proofs.Math.ListN.{get_or-map}
use Rattle.rotating_pick.specs.PortSets.{Has}
use Rattle.rotating_pick.proofs.Bits.{no_member-zero}
use Rattle.rotating_pick.specs.declared.kinds.Kind.{Kind}
use Rattle.rotating_pick.specs.declared.kinds.Kind.TheVariants.{Multi}
use Rattle.slot_match.specs.declared.matching.Fed.{Fed}
use Rattle.slot_match.specs.Matches.{fed_of, Serves, IsFreeOutput, IsMatch, MayAdd}
use Rattle.scheduler_c.specs.declared.feeds.FeedWords.{FeedWords}
use Rattle.scheduler_c.specs.Feeds.{no_feed, feed_from, matched_from}
use Rattle.scheduler_c.specs.Matches.{IsReadyFor}

-- `part` has the first outputs of `whole`, and nothing from `output` on, which `whole` feeds by `fed`
module _ (n : ℕ) (whole part : List (Option Fed)) (output : ℕ) (fed : Fed)
    (is_match : IsMatch n whole) (here : fed_of whole output ≡ Some fed)
    (done : (j : ℕ) → j < output → fed_of part j ≡ fed_of whole j) (rest : (j : ℕ) → output ≤ j → fed_of part j ≡ None) where
  -- what the part serves is below the output
  below : (i j level : ℕ) (kind : Kind) → Serves part i j level kind → j < output
  below i j level kind serves = elim (cases_lt j output) [ inl is ↦ is | inr above ↦ absurd (none_some (sym (rest j above) ∙ serves)) ] where
    none_some : {x : Fed} → None ≡ Some x → ⊥
    none_some e = absurd (cc)

  -- of an output that the part has from the same input, the level is that of `fed` and both are multicast
  same : (j level : ℕ) (kind : Kind) → Serves part fed.input j level kind → (level ≡ fed.level) × (kind ≡ Multi) × (fed.kind ≡ Multi)
  same j level kind serves =
      let j_in = below fed.input j level kind serves in
      elim (is_match.once fed.input j level kind output fed.level fed.kind (sym (done j j_in) ∙ serves) here) [
        | inl equal ↦ absurd (omega arith)
        | inr both ↦ both
      ]

  -- an input that is not ready is no input of a match
  pub ready-in_match : (IsReadyFor part fed → ⊥) → ⊥
  ready-in_match refused =
      refused (inl (λ j level kind serves.
      let one = same j level kind serves in
      refused (inr (
        one.2,
        record {
          some = (j, rw (one.0, one.1) at serves);
          only = λ k other again also. let more = same k other again also in (more.0, more.1);
        },
      ))))

-- an input that is ready may get one free output
pub MayAdd-single : (n outputs output : ℕ) (matched : List (Option Fed)) (fed : Fed)
    → ((y : ℕ) → Has outputs y ↔ ((y ≡ output) ⊎ Has 0 y)) → output < n → fed_of matched output ≡ None → IsReadyFor matched fed
    → MayAdd n matched fed.input outputs fed.level fed.kind
MayAdd-single n outputs output matched fed members output_in free ready =
    let single : (j : ℕ) → Has outputs j → j ≡ output = λ j has. elim ((members j).0 has) [ inl e ↦ e | inr none ↦ absurd (no_member-zero j none) ] in
    record {
      some = (output, (members output).1 (inl refl));
      free = λ j has. subst (λ k. (k < n) × IsFreeOutput matched k) (sym (single j has)) (output_in, free);
      one = λ unicast j k first second. single j first ∙ sym (single k second);
      ready = ready;
    }

-- what the words say that feeds an output
pub fed_of-matched_from : (feeds : List FeedWords) (j : ℕ) → fed_of (matched_from feeds) j ≡ feed_from (slice_index_or feeds j no_feed)
fed_of-matched_from feeds j = get_or-map feed_from feeds j no_feed

-- a match that has at each output what the words say is theirs
pub matched_from-made : (feeds : List FeedWords) (matched : List (Option Fed)) → length matched ≡ length feeds
    → ((j : ℕ) → j < length feeds → fed_of matched j ≡ feed_from (slice_index_or feeds j no_feed)) → matched ≡ matched_from feeds
matched_from-made feeds matched count each =
    ext_get_or None matched (matched_from feeds) (count ∙ sym (length-map feeds feed_from))
    (λ j below. each j (omega (arith, count)) ∙ sym (fed_of-matched_from feeds j))
