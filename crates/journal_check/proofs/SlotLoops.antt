-- The posts and the outputs of a slot, read one after another.
use Rattle.std.proofs.Common.{◌≡◌, ℕ, ◌+◌, ◌<◌, ◌≤◌, ◌∙◌, Bool, List, [], ◌∷◌, ◌++◌, length, take, drop, map, set, Option, Result, Ok, Err, MatchResult}
use Rattle.std.proofs.Common.{refl, sym, ap, arith, add-one}
use Rattle.std.specs.List.{range_with_len}
use Rattle.std.proofs.lemmas.List.{map-append}
use Rattle.std.proofs.Math.Seq.{take-suc-set}
use Rattle.std.proofs.Math.ListN.{length-set}
use Rattle.slot_match.specs.declared.rows.Row.{Row}
use Rattle.slot_match.specs.declared.matching.Fed.{Fed}
use Rattle.journal_check.specs.declared.fields.BadField.{BadField}
use Rattle.journal_check.specs.declared.slots.SlotRead.{SlotRead}
use Rattle.journal_check.specs.declared.posts.FilePost.{FilePost}
use Rattle.journal_check.specs.Fields.{each_in}
use Rattle.journal_check.specs.Files.{FileSlot, post_in, output_in, slot_in}
use Rattle.journal_check.specs.Steps.{IsRead, IsBadAt, IsSlotRead}
use Rattle.journal_check.proofs.Loops.{with_front, left_in, begin, step_ok, step_err, step_end}

-- one thing more stands at the end of those in the first places
pub placed : {X Y : Type 0} (f : Y → X) (table : List X) (i : ℕ) (done : List Y) (y : Y) → i < length table → take i table ≡ map f done
    → take (i + 1) (set table i (f y)) ≡ map f (done ++ y ∷ [])
placed f table i done y below so_far =
    ap (λ (k : ℕ). take k (set table i (f y))) (add-one i)
    ∙ take-suc-set table i (f y) below
    ∙ ap (λ (xs : List _). xs ++ f y ∷ []) so_far
    ∙ sym (map-append f done (y ∷ []))

-- the first i of n posts from place `at` on are read, and the next stands at `next`
pub record ArePostsRead (n : ℕ) (bytes : List ℕ) (at i next : ℕ) (rows : List Row) (more : List Bool) : Type 0 where
  pub posts : List FilePost
  pub within : next ≤ length bytes
  pub whole : each_in (λ k. post_in n) (range_with_len 0 n) (drop at bytes) ≡ with_front posts (left_in (λ k. post_in n) i n (drop next bytes))
  pub long_rows : length rows ≡ 64
  pub long_more : length more ≡ 64
  pub rows_are : take i rows ≡ map (λ post. post.row) posts
  pub more_are : take i more ≡ map (λ post. post.more) posts

-- the same of outputs
pub record AreOutputsRead (n : ℕ) (bytes : List ℕ) (at i next : ℕ) (fed : List (Option Fed)) : Type 0 where
  pub long : length fed ≡ 64
  pub within : next ≤ length bytes
  pub whole : each_in (λ k. output_in n) (range_with_len 0 n) (drop at bytes) ≡ with_front (take i fed) (left_in (λ k. output_in n) i n (drop next bytes))

module _ (n : ℕ) (bytes : List ℕ) (at : ℕ) where
  pub outputs_begin : (fed : List (Option Fed)) → at ≤ length bytes → length fed ≡ 64 → AreOutputsRead n bytes at 0 at fed
  outputs_begin fed place long = record { long = long; within = place; whole = begin (λ k. output_in n) n (drop at bytes) }

  pub outputs_go_on : (i next to : ℕ) (fed : List (Option Fed)) (output : Option Fed) → i < n → n ≤ 64 → AreOutputsRead n bytes at i next fed
      → IsRead (output_in n) bytes next output to → AreOutputsRead n bytes at (i + 1) to (set fed i output)
  outputs_go_on i next to fed output below few so_far here = record {
    long = length-set fed i output ∙ so_far.long;
    within = here.within;
    whole =
        so_far.whole ∙ step_ok (λ k. output_in n) (take i fed) i n (drop next bytes) (drop to bytes) output below here.reads
        ∙ ap (λ (xs : List (Option Fed)). with_front xs (left_in (λ k. output_in n) (i + 1) n (drop to bytes)))
        (sym (ap (λ (k : ℕ). take k (set fed i output)) (add-one i) ∙ take-suc-set fed i output (let long = so_far.long in omega arith)));
  }

  pub outputs_end : (next : ℕ) (fed : List (Option Fed)) → AreOutputsRead n bytes at n next fed
      → IsRead (each_in (λ k. output_in n) (range_with_len 0 n)) bytes at (take n fed) next
  outputs_end next fed so_far = record {
    within = so_far.within;
    reads = so_far.whole ∙ step_end (λ k. output_in n) (take n fed) n (drop next bytes);
  }

module _ (n : ℕ) (bytes : List ℕ) (at : ℕ) where
  pub posts_begin : (rows : List Row) (more : List Bool) → at ≤ length bytes → length rows ≡ 64 → length more ≡ 64 → ArePostsRead n bytes at 0 at rows more
  posts_begin rows more place long also = record {
    long_rows = long;
    long_more = also;
    posts = [];
    within = place;
    whole = begin (λ k. post_in n) n (drop at bytes);
    rows_are = refl;
    more_are = refl;
  }

  pub posts_fail : (i next bad : ℕ) (rows : List Row) (more : List Bool) → i < n → ArePostsRead n bytes at i next rows more
      → IsBadAt (post_in n) bytes next bad → IsBadAt (each_in (λ k. post_in n) (range_with_len 0 n)) bytes at bad
  posts_fail i next bad rows more below so_far here = record {
    within = here.within;
    fails = so_far.whole ∙ step_err (λ k. post_in n) so_far.posts i n (drop next bytes) (drop bad bytes) below here.fails;
  }

  pub posts_end : (next : ℕ) (rows : List Row) (more : List Bool) → (so_far : ArePostsRead n bytes at n next rows more)
      → IsRead (each_in (λ k. post_in n) (range_with_len 0 n)) bytes at so_far.posts next
  posts_end next rows more so_far = record {
    within = so_far.within;
    reads = so_far.whole ∙ step_end (λ k. post_in n) so_far.posts n (drop next bytes);
  }

-- these posts are read from place `at` on up to place `mid`, and stand in the first n places
pub record AreInPlaces (n : ℕ) (bytes : List ℕ) (at mid : ℕ) (read : SlotRead) : Type 0 where
  pub posts : List FilePost
  pub reads : IsRead (each_in (λ k. post_in n) (range_with_len 0 n)) bytes at posts mid
  pub rows : take n read.rows ≡ map (λ post. post.row) posts
  pub more : take n read.more ≡ map (λ post. post.more) posts

-- a slot is read where its posts and its outputs are
pub slot_outcome : (n : ℕ) (bytes : List ℕ) (at mid : ℕ) (read : SlotRead) (r : Result ℕ BadField) → AreInPlaces n bytes at mid read
    → MatchResult r (λ next. IsRead (each_in (λ k. output_in n) (range_with_len 0 n)) bytes mid (take n read.fed) next)
    (λ bad. IsBadAt (each_in (λ k. output_in n) (range_with_len 0 n)) bytes mid bad.at)
    → MatchResult r (λ next. (x : FileSlot) × IsRead (slot_in n) bytes at x next × IsSlotRead n read x) (λ bad. IsBadAt (slot_in n) bytes at bad.at)
unfolding slot_in
slot_outcome n bytes at mid read (Ok next) posts h = (
  record { posts = posts.posts; matched = take n read.fed },
  record { within = h.within; reads = rw posts.reads.reads (rw h.reads refl) },
  record { rows = posts.rows; more = posts.more; outputs = refl },
)
slot_outcome n bytes at mid read (Err bad) posts h = record { within = h.within; fails = rw posts.reads.reads (rw h.fails refl) }
