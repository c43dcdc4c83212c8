-- A job has one plan, a plan has one length of its run, and so a job makes one list of texts.
use Rattle.std.proofs.Common.{◌≡◌, ◌<◌, ◌≤◌, ◌∙◌, ℕ, zero, suc, Bool, true, List, [], ◌∷◌, map, length, get_or, Option, Some, None, refl, sym}
use Rattle.std.proofs.Common.{ap, subst, inl, inr, arith}
use Rattle.std.specs.Prelude.{IfSome, if◌then◌else◌}
use Rattle.std.proofs.lemmas.Bool.{cases_eq, cases_lt, or_right, or_left}
use Rattle.std.proofs.lemmas.List.{get_or-map, get_or_default, length-map, same_lists}
use Rattle.std.proofs.lemmas.Option.{slice_get-get_or}
use Rattle.crossbar.specs.declared.cards.Post.{Post}
use Rattle.pcap_records.specs.declared.link.Link.{Link}
use Rattle.slot_histories.specs.Slots.{is_done_at, is_done_before}
use Rattle.forward_table.specs.declared.route_lines.RouteLine.{RouteLine}
use Rattle.card_core.specs.declared.plan.Planned.{Planned}
use Rattle.card_core.specs.Plans.{Plan as CardPlan}
use Rattle.switch_words.specs.declared.job.Settings.{Settings}
use Rattle.switch_plan.specs.Traffic.{CaptureFile, unplaced}
use Rattle.switch_plan.specs.Totals.{body_room_for, max_slots_of, packet_room_for, sizes_for}
use Rattle.switch_plan.specs.GoodPlans.{SwitchPlan, IsCardOf, IsGood, IsPlanOf, packets_in}
use Rattle.eslip_rounds.specs.Schedulers.{Scheduler}
use Rattle.named_schedulers.specs.Named.{decision_named}
use Rattle.firm_rounds.specs.Decisions.{firm_decision}
use Rattle.journal_check.specs.declared.limits.TheConstants.{MAX_JOURNAL_BYTES}
use Rattle.switch_words.specs.Reading.{JobWords, run, gen, check, firm}
use Rattle.run_laws.specs.Runs.{no_plan, ports_of, posts_under}
use Rattle.run_laws.specs.Ends.{IsLengthUnder}
use Rattle.run_journals.specs.RunFiles.{journal_text_under}
use Rattle.packet_times.specs.declared.limits.TheConstants.{MAX_PACKETS_BYTES}
use Rattle.packet_times.specs.Rows.{packets_text_under}
use Rattle.run_notes.specs.declared.wanted.Wanted.{Wanted}
use Rattle.job_files.specs.OutputFiles.{Texts}
use Rattle.switch_run.specs.Switched.{AreTexts, IsLongJournal, IsLongPackets, IsPlanned, IsRunOf, IsSwitched}
use Rattle.switch_run.specs.Switched.{nothing_wanted, texts_under, wanted_by}
use Rattle.switch_run.proofs.OneOutcome.{same_captures, same_table}

-- ---- the length of a run

module _ (n : ℕ) (posts : ℕ → ℕ → Post) where
  -- a slot that is done is one of those before a later slot
  done_earlier : (k m : ℕ) → k < m → is_done_at n posts k ≡ true → is_done_before n posts m ≡ true
  done_earlier k zero less is = absurd (omega arith)
  done_earlier k (suc m) less is = elim (cases_eq k m) [
    | inl same ↦ or_right (is_done_before n posts m) (is_done_at n posts m) (subst (λ t. is_done_at n posts t ≡ true) same is)
    | inr other ↦ or_left (is_done_before n posts m) (is_done_at n posts m) (done_earlier k m (omega arith) is)
  ]

module _ (scheduler : Scheduler) (plan : SwitchPlan) where
  first_done : (a b : ℕ) → (p : IsLengthUnder scheduler plan a) → (q : IsLengthUnder scheduler plan b) → p.last < q.last → ⊥
  first_done a b p q less = let before = done_earlier (ports_of plan) (posts_under scheduler plan) p.last q.last less p.done in let going = q.going in
      absurd (cc)

  lengths_once : (a b : ℕ) → IsLengthUnder scheduler plan a → IsLengthUnder scheduler plan b → a ≡ b
  lengths_once a b p q = elim (cases_lt p.last q.last) [
    | inl less ↦ absurd (first_done a b p q less)
    | inr not_less ↦ elim (cases_lt q.last p.last) [
      | inl more ↦ absurd (first_done b a q p more)
      | inr not_more ↦ omega
          (arith, not_less, not_more, p.count, q.count)
    ]
  ]

-- ---- the packets of a plan

-- two lists are one where what two functions make of their elements is, and together tells an element
lists_once : {X A B : Type 0} (f : X → A) (g : X → B) → ((x y : X) → f x ≡ f y → g x ≡ g y → x ≡ y) → (xs ys : List X) → map f xs ≡ map f ys
    → map g xs ≡ map g ys → xs ≡ ys
lists_once f g tell [] [] p q = refl
lists_once f g tell [] (y ∷ ys) p q = absurd (cc)
lists_once f g tell (x ∷ xs) [] p q = absurd (cc)
lists_once f g tell (x ∷ xs) (y ∷ ys) p q =
    let first : f x ≡ f y = cc in
    let second : g x ≡ g y = cc in
    let rest : map f xs ≡ map f ys = cc in
    let others : map g xs ≡ map g ys = cc in
    ap (λ z. z ∷ xs) (tell x y first second) ∙ ap (λ zs. y ∷ zs) (lists_once f g tell xs ys rest others)

packet_once : (a b : Planned) → unplaced a ≡ unplaced b → a.start ≡ b.start → a ≡ b
packet_once a b same start =
    let placed : Planned → ℕ → Planned = λ packet at. record packet { start = at } in
    let whole : placed (unplaced a) a.start ≡ placed (unplaced b) b.start = ap (λ packet. placed packet a.start) same ∙ ap (placed (unplaced b)) start in
    whole

-- ---- plans

module _ (settings : Settings) (files : List (List ℕ)) (table : List RouteLine) (captures : List CaptureFile) (p q : SwitchPlan)
    (a : IsPlanOf settings files table captures p) (b : IsPlanOf settings files table captures q) (p_good : IsGood p) (q_good : IsGood q) where
  same_packets : packets_in p ≡ packets_in q
  same_packets =
      lists_once (map unplaced) (map (λ packet. packet.start)) (lists_once unplaced (λ packet. packet.start) packet_once) (packets_in p) (packets_in q)
      (a.packets ∙ sym b.packets) (a.places ∙ sym b.places)

  same_count : length p.cards ≡ length q.cards
  same_count = sym (length-map p.cards (λ card. card.bytes)) ∙ ap length (a.kept ∙ sym b.kept) ∙ length-map q.cards (λ card. card.bytes)

  same_depth : p.depth ≡ q.depth
  same_depth = a.depth ∙ sym b.depth

  module _ (k : ℕ) (p_in : k < length p.cards) where
    q_in : k < length q.cards
    q_in = omega (arith, p_in, same_count)

    abbrev x : CardPlan
    x = get_or p.cards k no_plan

    abbrev y : CardPlan
    y = get_or q.cards k no_plan

    mine : IsCardOf p k x
    mine = p_good.cards k x (slice_get-get_or p.cards k no_plan p_in)

    other : IsCardOf q k y
    other = q_good.cards k y (slice_get-get_or q.cards k no_plan q_in)

    packets_same : x.packets ≡ y.packets
    packets_same =
        sym (get_or-map (λ (card : CardPlan). card.packets) p.cards k no_plan [] p_in)
        ∙ ap (λ (packets : List (List Planned)). get_or packets k []) same_packets
        ∙ get_or-map (λ (card : CardPlan). card.packets) q.cards k no_plan [] q_in

    bytes_same : x.bytes ≡ y.bytes
    bytes_same =
        sym (get_or-map (λ (card : CardPlan). card.bytes) p.cards k no_plan [] p_in)
        ∙ ap (λ (bytes : List (List ℕ)). get_or bytes k []) (a.kept ∙ sym b.kept)
        ∙ get_or-map (λ (card : CardPlan). card.bytes) q.cards k no_plan [] q_in

    sizes_same : x.sizes ≡ y.sizes
    sizes_same = mine.sizes ∙ ap (sizes_for k) same_packets ∙ sym other.sizes

    body_same : x.body_room ≡ y.body_room
    body_same = mine.body ∙ ap (body_room_for k) same_packets ∙ sym other.body

    room_same : x.packet_room ≡ y.packet_room
    room_same = mine.messages ∙ ap (packet_room_for k) same_packets ∙ sym other.messages

    abbrev card_with : ℕ → ℕ → ℕ → List Planned → List ℕ → List ℕ → ℕ → ℕ → CardPlan
    card_with ports card depth packets bytes sizes body room =
        record { ports = ports; card = card; depth = depth; packets = packets; bytes = bytes; sizes = sizes; body_room = body; packet_room = room }

    same_card : x ≡ y
    same_card =
        let whole : card_with x.ports x.card x.depth x.packets x.bytes x.sizes x.body_room x.packet_room ≡ card_with y.ports y.card y.depth y.packets y.bytes
        y.sizes y.body_room y.packet_room =
        ap (λ ports. card_with ports x.card x.depth x.packets x.bytes x.sizes x.body_room x.packet_room) (mine.ports ∙ same_count ∙ sym other.ports)
        ∙ ap (λ card. card_with y.ports card x.depth x.packets x.bytes x.sizes x.body_room x.packet_room) (mine.number ∙ sym other.number)
        ∙ ap (λ depth. card_with y.ports y.card depth x.packets x.bytes x.sizes x.body_room x.packet_room) (mine.depth ∙ same_depth ∙ sym other.depth)
        ∙ ap (λ packets. card_with y.ports y.card y.depth packets x.bytes x.sizes x.body_room x.packet_room) packets_same
        ∙ ap (λ bytes. card_with y.ports y.card y.depth y.packets bytes x.sizes x.body_room x.packet_room) bytes_same
        ∙ ap (λ sizes. card_with y.ports y.card y.depth y.packets y.bytes sizes x.body_room x.packet_room) sizes_same
        ∙ ap (λ body. card_with y.ports y.card y.depth y.packets y.bytes y.sizes body x.packet_room) body_same
        ∙ ap (λ room. card_with y.ports y.card y.depth y.packets y.bytes y.sizes y.body_room room) room_same in
        whole

  same_cards : p.cards ≡ q.cards
  same_cards = same_lists p.cards q.cards same_count (λ k d k_in.
      get_or_default p.cards k d no_plan k_in ∙ same_card k k_in ∙ get_or_default q.cards k no_plan d (q_in k k_in))

  abbrev plan_with : Bool → Link → ℕ → ℕ → ℕ → ℕ → ℕ → ℕ → List CardPlan → SwitchPlan
  plan_with nano link rounds depth workers max_slots oversize unrouted cards =
      record {
        nano = nano;
        link = link;
        rounds = rounds;
        depth = depth;
        workers = workers;
        max_slots = max_slots;
        oversize = oversize;
        unrouted = unrouted;
        cards = cards;
      }

  -- the plan of a table and captures is one
  plans_once : p ≡ q
  plans_once =
      let whole : plan_with p.nano p.link p.rounds p.depth p.workers p.max_slots p.oversize p.unrouted p.cards ≡ plan_with q.nano q.link q.rounds q.depth
      q.workers q.max_slots q.oversize q.unrouted q.cards =
      ap (λ nano. plan_with nano p.link p.rounds p.depth p.workers p.max_slots p.oversize p.unrouted p.cards) (a.nano ∙ sym b.nano)
      ∙ ap (λ link. plan_with q.nano link p.rounds p.depth p.workers p.max_slots p.oversize p.unrouted p.cards) (a.link ∙ sym b.link)
      ∙ ap (λ rounds. plan_with q.nano q.link rounds p.depth p.workers p.max_slots p.oversize p.unrouted p.cards) (a.rounds ∙ sym b.rounds)
      ∙ ap (λ depth. plan_with q.nano q.link q.rounds depth p.workers p.max_slots p.oversize p.unrouted p.cards) same_depth
      ∙ ap (λ workers. plan_with q.nano q.link q.rounds q.depth workers p.max_slots p.oversize p.unrouted p.cards) (a.workers ∙ sym b.workers)
      ∙ ap (λ slots. plan_with q.nano q.link q.rounds q.depth q.workers slots p.oversize p.unrouted p.cards)
      (p_good.max_slots ∙ ap max_slots_of same_packets ∙ sym q_good.max_slots)
      ∙ ap (λ oversize. plan_with q.nano q.link q.rounds q.depth q.workers q.max_slots oversize p.unrouted p.cards) (a.oversize ∙ sym b.oversize)
      ∙ ap (λ unrouted. plan_with q.nano q.link q.rounds q.depth q.workers q.max_slots q.oversize unrouted p.cards) (a.unrouted ∙ sym b.unrouted)
      ∙ ap (plan_with q.nano q.link q.rounds q.depth q.workers q.max_slots q.oversize q.unrouted) same_cards in
      whole

-- ---- texts

-- the plan of a job is one
same_plan : (settings : Settings) (table : List ℕ) (files : List (List ℕ)) (p q : SwitchPlan) → IsPlanned settings table files p
    → IsPlanned settings table files q → p ≡ q
same_plan settings table files p q a b =
    let lines = same_table table files a.lines b.lines a.captures b.captures a.read b.read in
    let captures = same_captures table files a.lines b.lines a.captures b.captures a.read b.read in
    let planned = subst (λ (read : List CaptureFile). IsPlanOf settings files b.lines read q) (sym captures) b.planned in
    plans_once settings files a.lines a.captures p q a.planned
    (subst (λ (read : List RouteLine). IsPlanOf settings files read a.captures q) (sym lines) planned) a.good b.good

-- the run of a job under a scheduler is one
pub same_run : (scheduler : Scheduler) (settings : Settings) (table : List ℕ) (files : List (List ℕ)) (p q : SwitchPlan) (s t : ℕ)
    → IsRunOf scheduler settings table files p s → IsRunOf scheduler settings table files q t → (p ≡ q) × (s ≡ t)
same_run scheduler settings table files p q s t a b =
    let plan = same_plan settings table files p q a.planned b.planned in
    (plan, lengths_once scheduler q s t (subst (λ (plan : SwitchPlan). IsLengthUnder scheduler plan s) plan a.ends) b.ends)

switched_once : (scheduler : Scheduler) (settings : Settings) (wanted : Wanted) (table : List ℕ) (files : List (List ℕ)) (a b : Texts)
    → IsSwitched scheduler settings wanted table files a → IsSwitched scheduler settings wanted table files b → a ≡ b
switched_once scheduler settings wanted table files a b p q =
    let same = same_run scheduler settings table files p.plan q.plan p.slots q.slots p.run q.run in
    p.are ∙ ap (λ (plan : SwitchPlan). texts_under scheduler wanted plan p.slots) same.0 ∙ ap (texts_under scheduler wanted q.plan) same.1 ∙ sym q.are

-- a job makes one list of texts
pub texts_once : (job : JobWords) (table : List ℕ) (files : List (List ℕ)) (a b : Texts) → AreTexts job table files a → AreTexts job table files b → a ≡ b
texts_once (run r) table files a b p q = switched_once (decision_named r.scheduler) r.settings (wanted_by r) table files a b p q
texts_once (gen g) table files a b p q = switched_once (decision_named g.scheduler) g.settings nothing_wanted table files a b p q
texts_once (check c) table files a b p q = absurd p
texts_once (firm f) table files a b p q = switched_once firm_decision f.settings nothing_wanted table files a b p q

module _ (scheduler : Scheduler) (settings : Settings) (table : List ℕ) (files : List (List ℕ)) where
  -- a journal that is too long is that of the job's run
  pub journal_of_run : (plan : SwitchPlan) (slots size : ℕ) → IsRunOf scheduler settings table files plan slots
      → IsLongJournal scheduler settings table files size → size ≡ length (journal_text_under scheduler plan slots)
  journal_of_run plan slots size ran long =
      let same = same_run scheduler settings table files long.plan plan long.slots slots long.run ran in
      long.size_is ∙ ap (λ (p : SwitchPlan). length (journal_text_under scheduler p long.slots)) same.0
      ∙ ap (λ (t : ℕ). length (journal_text_under scheduler plan t)) same.1

  -- and so is a packets file
  packets_of_run : (plan : SwitchPlan) (slots size : ℕ) → IsRunOf scheduler settings table files plan slots
      → IsLongPackets scheduler settings table files size → size ≡ length (packets_text_under scheduler plan slots)
  packets_of_run plan slots size ran long =
      let same = same_run scheduler settings table files long.plan plan long.slots slots long.run ran in
      long.size_is ∙ ap (λ (p : SwitchPlan). length (packets_text_under scheduler p long.slots)) same.0
      ∙ ap (λ (t : ℕ). length (packets_text_under scheduler plan t)) same.1

  -- so each of them has one size
  pub long_once : (a b : ℕ) → IsLongJournal scheduler settings table files a → IsLongJournal scheduler settings table files b → a ≡ b
  long_once a b p q = journal_of_run q.plan q.slots a q.run p ∙ sym q.size_is

  pub long_packets_once : (a b : ℕ) → IsLongPackets scheduler settings table files a → IsLongPackets scheduler settings table files b → a ≡ b
  long_packets_once a b p q = packets_of_run q.plan q.slots a q.run p ∙ sym q.size_is

  -- and where texts were made of it, it was not wanted
  pub long_not_made : (wanted : Wanted) (texts : Texts) (size : ℕ) → wanted.journal ≡ true
      → IsSwitched scheduler settings wanted table files texts → IsLongJournal scheduler settings table files size → ⊥
  long_not_made wanted texts size is_wanted p q =
      let size_is = journal_of_run p.plan p.slots size p.run q in
      let there : texts.journal ≡ Some (journal_text_under scheduler p.plan p.slots) = ap (λ (t : Texts). t.journal) p.are
      ∙ ap (λ (b : Bool). if b then Some (journal_text_under scheduler p.plan p.slots) else None) is_wanted in
      let small = subst (λ (o : Option (List ℕ)). IfSome o (λ bytes. length bytes ≤ MAX_JOURNAL_BYTES)) there p.small in
      omega (arith, small, size_is, q.longer)

  pub long_packets_not_made : (wanted : Wanted) (texts : Texts) (size : ℕ) → wanted.packets ≡ true
      → IsSwitched scheduler settings wanted table files texts → IsLongPackets scheduler settings table files size → ⊥
  long_packets_not_made wanted texts size is_wanted p q =
      let size_is = packets_of_run p.plan p.slots size p.run q in
      let there : texts.packets ≡ Some (packets_text_under scheduler p.plan p.slots) = ap (λ (t : Texts). t.packets) p.are
      ∙ ap (λ (b : Bool). if b then Some (packets_text_under scheduler p.plan p.slots) else None) is_wanted in
      let small = subst (λ (o : Option (List ℕ)). IfSome o (λ bytes. length bytes ≤ MAX_PACKETS_BYTES)) there (p.packets_small q.short) in
      omega (arith, small, size_is, q.longer)
