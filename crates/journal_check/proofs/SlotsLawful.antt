-- Slots whose posts are accepted, of which the last alone is done, are a lawful file.
use Rattle.std.proofs.Common.{◌≡◌, ℕ, zero, suc, ◌+◌, ◌^◌, ◌<◌, ◌≤◌, ◌&&◌, ◌||◌, ◌∙◌, not, Bool, true, false, nat_lt, All, List, [], ◌∷◌, length, map}
use Rattle.std.proofs.Common.{Option, None, Some, refl, sym, ap, subst, arith, inl, inr, get_or, slice_index_or, slice_index, add-one, ltb-true}
use Rattle.std.specs.List.{list_any, list_all, range_with_len}
use Rattle.std.proofs.lemmas.Bool.{cases_Bool, cond-true, cond-false}
use Rattle.std.proofs.lemmas.List.{get_or-map, get_or-replicate, length-map, get_or_default}
use Rattle.std.proofs.lemmas.List.FromFn.{get_or-map-range_with_len, length-map-range_with_len}
use Rattle.std.proofs.lemmas.Simd.{map-map}
use Rattle.std_lemmas.proofs.Lists.{get_or-same}
use Rattle.rotating_pick.specs.declared.kinds.Kind.TheVariants.{Uni, Multi}
use Rattle.rotating_pick.proofs.Bits.{IsAmong-from_members}
use Rattle.slot_match.specs.declared.rows.Row.{Row}
use Rattle.slot_match.specs.declared.matching.Fed.{Fed}
use Rattle.slot_match.specs.declared.matching.Served.{Served}
use Rattle.slot_match.specs.Rows.{row_of, no_row, empty_row, IsEmptyRow}
use Rattle.slot_match.specs.Matches.{unmatched, fed_of, IsMatch}
use Rattle.slot_match.specs.Keeping.{KeepsRest, Gives}
use Rattle.slot_match.specs.Parts.{served_of}
use Rattle.slot_match.proofs.ServedParts.{served_of-free}
use Rattle.crossbar.specs.declared.cards.Post.{Post as CardPost}
use Rattle.eslip_rounds.specs.Schedulers.{Scheduler}
use Rattle.slot_histories.specs.Events.{Setup, no_post}
use Rattle.slot_histories.specs.Slots.{slot_posts, slot_rows, places_under, decision_under, is_done_at, row_before, served_before_under}
use Rattle.slot_histories.specs.Legal.{IsAccepted}
use Rattle.slot_histories.specs.Answers.{JournalSlot}
use Rattle.slot_histories.proofs.PostedRows.{length-slot_posts, row_of-slot_rows}
use Rattle.board_state.specs.Boards.{IsSetup, no_slot}
use Rattle.journal_check.specs.declared.posts.FilePost.{FilePost}
use Rattle.journal_check.specs.Fields.{most_slots}
use Rattle.journal_check.specs.Files.{FileSlot, JournalFile, rows_of, mores_of}
use Rattle.journal_check.specs.Texts.{file_post, file_slot, HasLevels, IsFileRow, IsFileOutput, IsFileSlot, IsFile}
use Rattle.journal_check.specs.Lawful.{Before, at_first, decided_in, after_slot, MayFollow, MayFollowAll, IsLawfulUnder}

-- some post says that more is to come exactly where the slot is not done
any_more : (posts : List CardPost)
    → list_any (λ (more : Bool). more) (map (λ (post : CardPost). post.more) posts) ≡ not (list_all (λ (post : CardPost). not post.more) posts)
any_more [] = refl
any_more (post ∷ posts) =
    two post.more (list_any (λ (more : Bool). more) (map (λ (post : CardPost). post.more) posts)) (list_all (λ (post : CardPost). not post.more) posts)
    (any_more posts) where
      two : (more any all : Bool) → any ≡ not all → (more || any) ≡ not (not more && all)
      two true any all e = refl
      two false any all e = e

few_slots : (ports most slots : ℕ) → slots ≤ most → most ≤ 262145 → (32 < ports → most ≤ 131073) → slots ≤ most_slots ports
few_slots ports most slots all few halved = elim (cases_Bool (nat_lt 32 ports)) [
  | inl e ↦ let same : most_slots ports ≡ 131073 = cond-true (nat_lt 32 ports) 131073 262145 e in let less = halved (ltb-true 32 ports e) in omega arith
  | inr e ↦ let same : most_slots ports ≡ 262145 = cond-false (nat_lt 32 ports) 131073 262145 e in omega arith
]

-- whether more was to come before slot t
abbrev pub going_before : ℕ → (ℕ → ℕ → CardPost) → ℕ → Bool
going_before n posts zero = true
going_before n posts (suc t) = not (is_done_at n posts t)

module _ (scheduler : Scheduler) where
  -- slot t as a journal has it, where each card posts these
  abbrev pub slot_under : Setup → (ℕ → ℕ → CardPost) → ℕ → JournalSlot
  slot_under s posts t = record {
    posts = slot_posts s.ports posts t;
    matched = (decision_under scheduler s posts t).matched;
    numbers = (decision_under scheduler s posts t).numbers;
  }

  -- the file of the first slots in which these are posted
  abbrev pub file_by : Setup → (ℕ → ℕ → CardPost) → ℕ → JournalFile
  file_by s posts slots = record { ports = s.ports; rounds = s.rounds; slots = map file_slot (map (slot_under s posts) (range_with_len 0 slots)) }

  -- Each post is accepted, each match is one of the ports, and the last slot alone is done.
  pub record AreWhole (s : Setup) (posts : ℕ → ℕ → CardPost) (slots : ℕ) : Type 0 where
    pub accepted : (i t : ℕ) → i < s.ports → t < slots → IsAccepted s.ports i (row_before posts i t) (served_before_under scheduler s posts i t) (posts i t)
    pub matches : (t : ℕ) → t < slots → IsMatch s.ports (decision_under scheduler s posts t).matched
    pub going : (t : ℕ) → t < slots → going_before s.ports posts t ≡ true
    pub ended : going_before s.ports posts slots ≡ false

  -- what slot t is judged by, as the posts tell it
  record StandsBefore (s : Setup) (posts : ℕ → ℕ → CardPost) (t : ℕ) (before : Before) : Type 0 where
    rows : (i : ℕ) → i < s.ports → row_of before.rows i ≡ row_before posts i t
    served : (i : ℕ) → served_of before.matched i ≡ served_before_under scheduler s posts i t
    going : before.going ≡ going_before s.ports posts t
    places : before.places ≡ places_under scheduler s posts t

  module _ (s : Setup) (posts : ℕ → ℕ → CardPost) where
    abbrev pub slot : ℕ → FileSlot
    slot t = file_slot (slot_under s posts t)

    pub rows-slot : (t : ℕ) → rows_of (slot t) ≡ slot_rows s.ports posts t
    rows-slot t = map-map (λ (p : FilePost). p.row) file_post (slot_posts s.ports posts t)

    mores-slot : (t : ℕ) → mores_of (slot t) ≡ map (λ (post : CardPost). post.more) (slot_posts s.ports posts t)
    mores-slot t = map-map (λ (p : FilePost). p.more) file_post (slot_posts s.ports posts t)

    row-slot : (t i : ℕ) → i < s.ports → row_of (rows_of (slot t)) i ≡ (posts i t).row
    row-slot t i below = ap (λ (rows : List Row). row_of rows i) (rows-slot t) ∙ row_of-slot_rows s.ports posts t i below

    more-slot : (t i : ℕ) → i < s.ports → slice_index_or (mores_of (slot t)) i false ≡ (posts i t).more
    more-slot t i below =
        let all = slot_posts s.ports posts t in
        let long = length-slot_posts s.ports posts t in
        ap (λ (more : List Bool). slice_index_or more i false) (mores-slot t)
        ∙ get_or-map (λ (post : CardPost). post.more) all i no_post false (omega arith)
        ∙ ap (λ (post : CardPost). post.more) (get_or-map-range_with_len (λ (j : ℕ). posts j t) 0 s.ports i i no_post below (omega arith))

    -- the post of a card, and the slot of a file
    pub post_in : (t i : ℕ) (d : FilePost) → i < s.ports → get_or (slot t).posts i d ≡ file_post (posts i t)
    post_in t i d below =
        let all = slot_posts s.ports posts t in
        let long = length-slot_posts s.ports posts t in
        get_or-map file_post all i no_post d (omega arith)
        ∙ ap file_post (get_or-map-range_with_len (λ (j : ℕ). posts j t) 0 s.ports i i no_post below (omega arith))

    pub count_posts : (t : ℕ) → length (slot t).posts ≡ s.ports
    count_posts t = length-map (slot_posts s.ports posts t) file_post ∙ length-slot_posts s.ports posts t

    pub count_slots : (slots : ℕ) → length (file_by s posts slots).slots ≡ slots
    count_slots slots = length-map (map (slot_under s posts) (range_with_len 0 slots)) file_slot ∙ length-map-range_with_len (slot_under s posts) 0 slots

    pub slot_in : (slots t : ℕ) (d : FileSlot) → t < slots → get_or (file_by s posts slots).slots t d ≡ slot t
    slot_in slots t d below =
        get_or-map file_slot (map (slot_under s posts) (range_with_len 0 slots)) t no_slot d
        (omega (arith, length-map-range_with_len (slot_under s posts) 0 slots))
        ∙ ap file_slot (get_or-map-range_with_len (slot_under s posts) 0 slots t t no_slot below (omega arith))

    stands_first : StandsBefore s posts 0 (at_first s.ports)
    unfolding at_first
    stands_first = record {
      rows = λ i below. get_or-replicate s.ports i empty_row no_row below;
      served = λ i. served_of-free (unmatched s.ports) i
          (λ j level kind serves. absurd
          (let none : fed_of (unmatched s.ports) j ≡ None = get_or-same None s.ports j in
          let same : None ≡ Some (record { input = i; level = level; kind = kind }) = sym none ∙ serves in cc));
      going = refl;
      places = refl;
    }

    same_decision : (t : ℕ) (before : Before) → StandsBefore s posts t before
        → decided_in scheduler s.ports s.rounds t before (slot t) ≡ decision_under scheduler s posts t
    same_decision t before stands =
        ap (λ (rows : List Row). scheduler s.ports s.rounds t rows before.places) (rows-slot t)
        ∙ ap (scheduler s.ports s.rounds t (slot_rows s.ports posts t)) stands.places

    stands_next : (t : ℕ) (before : Before) → StandsBefore s posts t before
        → StandsBefore s posts (suc t) (after_slot scheduler s.ports s.rounds t before (slot t))
    unfolding after_slot
    stands_next t before stands = record {
      rows = λ i below. row-slot t i below;
      served = λ i. refl;
      going = ap (list_any (λ (more : Bool). more)) (mores-slot t) ∙ any_more (slot_posts s.ports posts t);
      places = ap (λ d. d.places) (same_decision t before stands);
    }

    module _ (slots : ℕ) (whole : AreWhole s posts slots) where
      follows : (t : ℕ) (before : Before) → t < slots → StandsBefore s posts t before → MayFollow scheduler s.ports s.rounds t before (slot t)
      follows t before below stands =
          let stood = λ (i : ℕ) (in_ports : i < s.ports). whole.accepted i t in_ports below in
          record {
            goes_on = stands.going ∙ whole.going t below;
            more = λ i in_ports. elim ((stood i in_ports).more) [
              | inl empty ↦ inl (subst IsEmptyRow (sym (row-slot t i in_ports)) empty)
              | inr said ↦ inr (more-slot t i in_ports ∙ said)
            ];
            keeps = λ i in_ports.
                subst (λ (row : Row). KeepsRest (Gives (served_of before.matched i)) (row_of before.rows i) row) (sym (row-slot t i in_ports))
                (subst (λ (row : Row). KeepsRest (Gives (served_of before.matched i)) row (posts i t).row) (sym (stands.rows i in_ports))
                (subst (λ (part : Option Served). KeepsRest (Gives part) (row_before posts i t) (posts i t).row) (sym (stands.served i))
                (stood i in_ports).keeps));
            decided = ap (λ d. d.matched) (sym (same_decision t before stands));
          }

      follow_all : (k t : ℕ) (before : Before) → t + k ≡ slots → StandsBefore s posts t before
          → MayFollowAll scheduler s.ports s.rounds t before (map slot (range_with_len t k))
      follow_all zero t before last stands =
          let is : t ≡ slots = omega arith in
          stands.going ∙ ap (going_before s.ports posts) is ∙ whole.ended
      follow_all (suc k) t before last stands =
          let next = stands_next t before stands in (
            follows t before (omega arith) stands,
            follow_all k (t + 1) (after_slot scheduler s.ports s.rounds t before (slot t)) (omega arith)
                (subst (λ (u : ℕ). StandsBefore s posts u (after_slot scheduler s.ports s.rounds t before (slot t))) (sym (add-one t)) next),
          )

      pub slots_lawful : IsLawfulUnder scheduler (file_by s posts slots)
      unfolding IsLawfulUnder
      slots_lawful =
          subst (MayFollowAll scheduler s.ports s.rounds 0 (at_first s.ports)) (sym (map-map file_slot (slot_under s posts) (range_with_len 0 slots)))
          (follow_all slots 0 (at_first s.ports) (omega arith) stands_first)

      file_row : (i t : ℕ) → i < s.ports → t < slots → HasLevels (posts i t).row → IsFileRow s.ports (posts i t).row
      file_row i t inside below four =
          let row = (posts i t).row in
          let within = (whole.accepted i t inside below).within in
          record {
            uni_levels = four.uni;
            multi_levels = four.multi;
            uni_within = λ k d in_row. subst (λ (set : ℕ). set < 2 ^ s.ports) (get_or_default row.uni k 0 d in_row)
                (IsAmong-from_members s.ports (slice_index row.uni k) (λ x has. within k x Uni has));
            multi_within = λ k d in_row. subst (λ (set : ℕ). set < 2 ^ s.ports) (get_or_default row.multi k 0 d in_row)
                (IsAmong-from_members s.ports (slice_index row.multi k) (λ x has. within k x Multi has));
          }

      fed_within : (matched : List (Option Fed)) → IsMatch s.ports matched → All (IsFileOutput s.ports) matched
      fed_within matched sound k d inside = fed (get_or matched k d) (get_or_default matched k None d inside) where
        fed : (o : Option Fed) → fed_of matched k ≡ o → IsFileOutput s.ports o
        fed None is = tt
        fed (Some f) is = (sound.input_in f.input k f.level f.kind is, sound.level_in f.input k f.level f.kind is)

      slot_is : (t : ℕ) → t < slots → ((i : ℕ) → i < s.ports → HasLevels (posts i t).row) → IsFileSlot s.ports (slot t)
      slot_is t below four =
          let all = count_posts t in
          record {
            cards = all;
            rows = λ i d inside.
                let in_ports : i < s.ports = omega arith in
                subst (λ (post : FilePost). IsFileRow s.ports post.row) (sym (post_in t i d in_ports)) (file_row i t in_ports below (four i in_ports));
            outputs = (whole.matches t below).count;
            matches = fed_within (decision_under scheduler s posts t).matched (whole.matches t below);
          }

      pub some_slot : 0 < slots
      some_slot = by_end slots whole.ended where
        by_end : (k : ℕ) → going_before s.ports posts k ≡ false → 0 < k
        by_end zero ended = absurd (cc)
        by_end (suc k) ended = omega arith

      pub slots_are_file : IsSetup s → slots ≤ s.max_slots → ((i t : ℕ) → i < s.ports → t < slots → HasLevels (posts i t).row) → IsFile (file_by s posts slots)
      slots_are_file setup few four =
          let count = count_slots slots in
          record {
            ports_some = setup.ports_some;
            ports_few = setup.ports_few;
            rounds_some = setup.rounds_some;
            rounds_few = setup.rounds_few;
            slots_some = let some = some_slot in omega arith;
            slots_few = subst (λ (k : ℕ). k ≤ most_slots s.ports) (sym count) (few_slots s.ports s.max_slots slots few setup.slots_few setup.slots_halved);
            slots = λ t d inside.
                let below : t < slots = omega arith in
                subst (IsFileSlot s.ports) (sym (slot_in slots t d below)) (slot_is t below (λ i in_ports. four i t in_ports below));
          }
