-- What is appended, one after another.
use Rattle.std.proofs.Common.{◌≡◌, ℕ, ◌+◌, ◌*◌, ◌<◌, ◌==◌, ◌∙◌, Bool, List, [], ◌∷◌, ◌++◌, length, take, get_or, slice_index_or, map, Option, None}
use Rattle.std.proofs.Common.{Some, All, refl, sym, ap, subst, arith, append_assoc, inl, inr}
use Rattle.std.specs.List.{flat_map}
use Rattle.std.proofs.lemmas.Grind.{flat_map-append}
use Rattle.std.proofs.lemmas.List.{length-append, append-nil, take_more, take_all, length-map, get_or_default, get_or-map}
use Rattle.std.proofs.lemmas.Bool.{cases_eq, cases_Bool, cond-false}
use Rattle.std.proofs.lemmas.Bool.Decides.{Decides-eqb}
use Rattle.std.proofs.lemmas.List.Folds.{flat_map-map}
use Rattle.byteorder.specs.Endian.{big_bytes}
use Rattle.slot_match.specs.declared.rows.Row.{Row}
use Rattle.slot_match.specs.declared.matching.Fed.{Fed}
use Rattle.journal_check.specs.declared.posts.FilePost.{FilePost}
use Rattle.crossbar.specs.declared.cards.Post.{Post as CardPost}
use Rattle.slot_histories.specs.Answers.{JournalSlot}
use Rattle.board_state.specs.Boards.{JournalValue, no_slot}
use Rattle.slot_histories.specs.Events.{no_post}
use Rattle.journal_check.specs.Files.{FileSlot}
use Rattle.journal_check.specs.Texts.{sets_there, number_of, HasLevels, HaveLevels, set_text, post_text, output_text, slot_text, header_text}
use Rattle.journal_check.specs.Texts.{file_text, file_post, file_slot, file_of}

module _ {X : Type 0} (f : X → List ℕ) where
  flat_more : (xs : List X) (i : ℕ) (d : X) → i < length xs → flat_map f (take (i + 1) xs) ≡ flat_map f (take i xs) ++ f (get_or xs i d)
  flat_more xs i d below =
      ap (flat_map f) (take_more xs i d below) ∙ flat_map-append f (take i xs) (get_or xs i d ∷ [])
      ∙ ap (λ (t : List ℕ). flat_map f (take i xs) ++ t) (append-nil (f (get_or xs i d)))

  -- the text of one thing more is appended
  grown : (xs : List X) (i : ℕ) (d : X) (old : List ℕ) → i < length xs
      → (old ++ flat_map f (take i xs)) ++ f (get_or xs i d) ≡ old ++ flat_map f (take (i + 1) xs)
  grown xs i d old below = append_assoc old (flat_map f (take i xs)) (f (get_or xs i d)) ∙ ap (λ (t : List ℕ). old ++ t) (sym (flat_more xs i d below))

  -- the length of one thing more is added
  pub longer : (xs : List X) (i : ℕ) (x : X) (base now : ℕ) → i < length xs → x ≡ get_or xs i x → now ≡ base + length (flat_map f (take i xs))
      → now + length (f x) ≡ base + length (flat_map f (take (i + 1) xs))
  longer xs i x base now below is so_far =
      let more : length (flat_map f (take (i + 1) xs)) ≡ length (flat_map f (take i xs)) + length (f x) =
      ap length (flat_more xs i x below) ∙ length-append (flat_map f (take i xs)) (f (get_or xs i x))
      ∙ ap (λ (y : X). length (flat_map f (take i xs)) + length (f y)) (sym is) in
      omega arith

pub outputs_long : (matched : List (Option Fed)) → length (flat_map output_text matched) ≡ 2 * length matched
outputs_long [] = refl
outputs_long (None ∷ rest) = let more = outputs_long rest in omega arith
outputs_long (Some fed ∷ rest) = let more = outputs_long rest in omega arith

pub post_long : (row : Row) (more : Bool)
    → length (post_text (record { row = row; more = more })) ≡ 2 + length (flat_map set_text row.uni) + length (flat_map set_text row.multi)
unfolding post_text
post_long row more =
    let both = ap length (flat_map-append set_text row.uni row.multi) ∙ length-append (flat_map set_text row.uni) (flat_map set_text row.multi) in
    omega arith

pub set_some : (set : ℕ) → (set ≡ 0 → ⊥) → set_text set ≡ big_bytes 8 set
set_some set some = cond-false (set == 0) [] (big_bytes 8 set) (elim (cases_Bool (set == 0)) [ inl e ↦ absurd (some ((Decides-eqb set 0).0 e)) | inr e ↦ e ])

-- the bytes of a slot of a journal
slot_spelled : (slot : JournalSlot) → slot_text (file_slot slot) ≡ flat_map (λ (post : CardPost). post_text (file_post post)) slot.posts
    ++ flat_map output_text slot.matched
unfolding slot_text
slot_spelled slot = ap (λ (t : List ℕ). t ++ flat_map output_text slot.matched) (flat_map-map post_text file_post slot.posts)

-- one slot more is appended: its posts, and then its outputs
pub slots_grown : (slots : List JournalSlot) (i : ℕ) (old now new : List ℕ) → i < length slots
    → now ≡ old ++ flat_map (λ (slot : JournalSlot). slot_text (file_slot slot)) (take i slots)
    → new ≡ (now ++ flat_map (λ (post : CardPost). post_text (file_post post)) (slice_index_or slots i no_slot).posts)
    ++ flat_map output_text (slice_index_or slots i no_slot).matched
    → new ≡ old ++ flat_map (λ (slot : JournalSlot). slot_text (file_slot slot)) (take (i + 1) slots)
slots_grown slots i old now new below so_far appended =
    let slot = slice_index_or slots i no_slot in
    let posts = flat_map (λ (post : CardPost). post_text (file_post post)) slot.posts in
    appended ∙ append_assoc now posts (flat_map output_text slot.matched)
    ∙ ap (λ (t : List ℕ). now ++ t) (sym (slot_spelled slot)) ∙ ap (λ (t : List ℕ). t ++ slot_text (file_slot slot)) so_far
    ∙ grown (λ (s : JournalSlot). slot_text (file_slot s)) slots i no_slot old below

pub file_spelled : (journal : JournalValue) (t : ℕ) (text : List ℕ) → t ≡ length journal.slots
    → text ≡ header_text journal.setup.ports journal.setup.rounds (length journal.slots)
    ++ flat_map (λ (slot : JournalSlot). slot_text (file_slot slot)) (take t journal.slots) → text ≡ file_text (file_of journal)
unfolding file_text
file_spelled journal t text all so_far =
    let slots = journal.slots in
    let header = header_text journal.setup.ports journal.setup.rounds in
    so_far ∙ ap (λ (k : ℕ). header (length slots) ++ flat_map (λ (slot : JournalSlot). slot_text (file_slot slot)) (take k slots)) all
    ∙ ap (λ (s : List JournalSlot). header (length slots) ++ flat_map (λ (slot : JournalSlot). slot_text (file_slot slot)) s)
    (take_all (length slots) slots (omega arith))
    ∙ ap (λ (k : ℕ). header k ++ flat_map (λ (slot : JournalSlot). slot_text (file_slot slot)) slots) (sym (length-map slots file_slot))
    ∙ ap (λ (t : List ℕ). header (length (map file_slot slots)) ++ t) (sym (flat_map-map slot_text file_slot slots))

-- the length of one slot more is added
pub slots_longer : (slots : List JournalSlot) (i len : ℕ) → i < length slots
    → len ≡ 12 + length (flat_map (λ (slot : JournalSlot). slot_text (file_slot slot)) (take i slots))
    → len + (length (flat_map (λ (post : CardPost). post_text (file_post post)) (slice_index_or slots i no_slot).posts)
    + length (flat_map output_text (slice_index_or slots i no_slot).matched))
    ≡ 12 + length (flat_map (λ (slot : JournalSlot). slot_text (file_slot slot)) (take (i + 1) slots))
slots_longer slots i len below so_far =
    let slot = slice_index_or slots i no_slot in
    let posts = flat_map (λ (post : CardPost). post_text (file_post post)) slot.posts in
    let whole : length (slot_text (file_slot slot)) ≡ length posts + length (flat_map output_text slot.matched) =
    ap length (slot_spelled slot) ∙ length-append posts (flat_map output_text slot.matched) in
    let more = longer (λ (s : JournalSlot). slot_text (file_slot s)) slots i slot 12 len below (get_or_default slots i no_slot slot below) so_far in
    omega arith

pub file_long : (journal : JournalValue) (t len : ℕ) → t ≡ length journal.slots
    → len ≡ 12 + length (flat_map (λ (slot : JournalSlot). slot_text (file_slot slot)) (take t journal.slots)) → len ≡ length (file_text (file_of journal))
file_long journal t len all so_far =
    let header = header_text journal.setup.ports journal.setup.rounds (length journal.slots) in
    let body = flat_map (λ (slot : JournalSlot). slot_text (file_slot slot)) (take t journal.slots) in
    so_far ∙ sym (length-append header body) ∙ ap length (file_spelled journal t (header ++ body) all refl)

-- a post: its two bytes, and then its sets
pub post_spelled : (row : Row) (more : Bool) (old : List ℕ)
    → (((old ++ sets_there row ∷ []) ++ number_of more ∷ []) ++ flat_map set_text row.uni) ++ flat_map set_text row.multi
    ≡ old ++ post_text (record { row = row; more = more })
unfolding post_text
post_spelled row more old =
    let uni = flat_map set_text row.uni in
    let multi = flat_map set_text row.multi in
    let sets = sets_there row in
    let flag = number_of more in
    let regroup : (((old ++ sets ∷ []) ++ flag ∷ []) ++ uni) ++ multi ≡ old ++ (sets ∷ flag ∷ (uni ++ multi)) = simp append_assoc in
    regroup ∙ ap (λ (t : List ℕ). old ++ (sets ∷ flag ∷ t)) (sym (flat_map-append set_text row.uni row.multi))

-- the first i things are such
abbrev pub AreFirst : {X : Type 0} → (X → Type 0) → List X → ℕ → Type 0
AreFirst P xs i = (k : ℕ) (d : _) → k < i → P (get_or xs k d)

-- and so is one more
pub first_more : {X : Type 0} (P : X → Type 0) (xs : List X) (i : ℕ) (e : X) → i < length xs → P (get_or xs i e) → AreFirst P xs i → AreFirst P xs (i + 1)
first_more P xs i e below here so_far k d within =
    elim (cases_eq k i) [
      | inl same ↦ subst P (get_or_default xs i e d below ∙ ap (λ (j : ℕ). get_or xs j d) (sym same)) here
      | inr apart ↦ so_far k d (omega arith)
    ]

-- all posts of a journal have their sets
pub levels_of : (journal : JournalValue) (t : ℕ) → t ≡ length journal.slots
    → AreFirst (λ (slot : JournalSlot). All (λ (post : CardPost). HasLevels post.row) slot.posts) journal.slots t → HaveLevels (file_of journal)
levels_of journal t all each k d within i e inside =
    let slots = journal.slots in
    let in_slots : k < length slots = omega (arith, length-map slots file_slot) in
    let slot_is : get_or (map file_slot slots) k d ≡ file_slot (get_or slots k no_slot) = get_or-map file_slot slots k no_slot d in_slots in
    let posts = (get_or slots k no_slot).posts in
    let at_most : i < length (map file_post posts) = subst (λ (slot : FileSlot). i < length slot.posts) slot_is inside in
    let in_posts : i < length posts = omega (arith, length-map posts file_post) in
    let post_is : get_or (map file_post posts) i e ≡ file_post (get_or posts i no_post) = get_or-map file_post posts i no_post e in_posts in
    subst (λ (slot : FileSlot). HasLevels (get_or slot.posts i e).row) (sym slot_is)
    (subst (λ (post : FilePost). HasLevels post.row) (sym post_is) (each k no_slot (omega arith) i no_post in_posts))
