-- Words that were copied one by one are those of the whole.
use Rattle.std.proofs.Common.{◌≡◌, ℕ, ◌<◌, ◌≤◌, ◌==◌, ◌∙◌, false, List, Option, None, Some, length, slice_index_or, refl, sym, ap, subst, inl, inr, arith}
use Rattle.std.proofs.lemmas.Bool.{ne_eqb}
use Rattle.std.proofs.lemmas.List.{ext_get_or, length-map}
use Rattle.std.proofs.lemmas.List.Elements.{All-from_get_or}
use Rattle.std.proofs.Math.ListN.{get_or-map}
use Rattle.rotating_pick.specs.declared.kinds.Kind.{Kind}
use Rattle.rotating_pick.specs.declared.kinds.Kind.TheVariants.{Uni, Multi}
use Rattle.rotating_pick.specs.declared.limits.TheConstants.{LEVELS, MAX_PORTS}
use Rattle.slot_match.specs.declared.matching.Fed.{Fed}
use Rattle.slot_match.specs.Matches.{fed_of, IsMatch}
use Rattle.scheduler_c.specs.declared.feeds.FeedWords.{FeedWords}
use Rattle.scheduler_c.specs.FeedSteps.{AreWritten}
use Rattle.scheduler_c.specs.Feeds.{kind_word, no_feed, feed_words, kind_from, feed_from, matched_from, IsFeed, AreFeeds}

-- the words of a kind are of that kind, and no other number
kind_from-word : (kind : Kind) → kind_from (kind_word kind) ≡ kind
kind_from-word Uni = refl
kind_from-word Multi = refl

kind_word-below : (kind : Kind) → kind_word kind < 2
kind_word-below Uni = omega arith
kind_word-below Multi = omega arith

-- what is written of what feeds an output is read as the same
feed_from-words : (fed : Option Fed) → ((some : Fed) → fed ≡ Some some → some.input < MAX_PORTS) → feed_from (feed_words fed) ≡ fed
feed_from-words None small = refl
feed_from-words (Some fed) small =
    let apart : (fed.input == 4294967295) ≡ false = ne_eqb fed.input 4294967295 (λ e. let below = small fed refl in omega arith) in
    rw apart (ap (λ (kind : Kind). Some (record { input = fed.input; level = fed.level; kind = kind })) (kind_from-word fed.kind))

-- what is written of what feeds an output is in range
IsFeed-words : (n : ℕ) (fed : Option Fed) → ((some : Fed) → fed ≡ Some some → (some.input < n) × (some.level < LEVELS)) → IsFeed n (feed_words fed)
IsFeed-words n None within = inl refl
IsFeed-words n (Some fed) within = let here = within fed refl in inr (here.0, here.1, kind_word-below fed.kind)

module _ (n : ℕ) (size : n ≤ MAX_PORTS) (matched : List (Option Fed)) (whole : IsMatch n matched)
    (feeds : List FeedWords) (count : length feeds ≡ n)
    (each : (j : ℕ) → j < n → slice_index_or feeds j no_feed ≡ feed_words (fed_of matched j)) where
  -- words that were written of a match output by output
  pub matched_from-each : matched_from feeds ≡ matched
  matched_from-each =
      ext_get_or None (matched_from feeds) matched (length-map feeds feed_from ∙ (count ∙ sym whole.count)) (λ j below.
      let j_in : j < n = omega (arith, count, length-map feeds feed_from) in
      let small : (some : Fed) → fed_of matched j ≡ Some some → some.input < MAX_PORTS =
      λ some is. let input_in = whole.input_in some.input j some.level some.kind is in omega arith in
      get_or-map feed_from feeds j no_feed ∙ (ap feed_from (each j j_in) ∙ feed_from-words (fed_of matched j) small))

  pub AreFeeds-each : AreFeeds n feeds
  AreFeeds-each = record {
    count = count;
    each = All-from_get_or (IsFeed n) feeds no_feed (λ j below.
        let within : (some : Fed) → fed_of matched j ≡ Some some → (some.input < n) × (some.level < LEVELS) =
        λ some is. (whole.input_in some.input j some.level some.kind is, whole.level_in some.input j some.level some.kind is) in
        subst (IsFeed n) (sym (each j (omega (arith, count)))) (IsFeed-words n (fed_of matched j) within));
  }

-- the same of the words of a match that were written
pub matched_from-written : (matched : List (Option Fed)) (feeds : List FeedWords) → length matched ≤ MAX_PORTS → IsMatch (length matched) matched
    → AreWritten matched feeds → (matched_from feeds ≡ matched) × AreFeeds (length matched) feeds
matched_from-written matched feeds size whole written = (
  matched_from-each (length matched) size matched whole feeds written.count written.each,
  AreFeeds-each (length matched) size matched whole feeds written.count written.each,
)
