-- What a decided slot of a legal list serves a card, and the cells that cross in it.
use Rattle.std.proofs.Common.{◌≡◌, ◌∙◌, ℕ, suc, ◌<◌, ◌≤◌, List, Option, None, Some, map, refl, sym, ap, subst, arith, inl, inr}
use Rattle.std.specs.Prelude.{slice_index_or}
use Rattle.std.proofs.lemmas.List.{get_or-map}
use Rattle.std.proofs.lemmas.List.FromFn.{get_or-map-range_with_len}
use Rattle.rotating_pick.specs.declared.kinds.Kind.{Kind}
use Rattle.rotating_pick.specs.declared.kinds.Kind.TheVariants.{Uni, Multi}
use Rattle.rotating_pick.specs.declared.limits.TheConstants.{MAX_PORTS}
use Rattle.slot_match.specs.declared.matching.Fed.{Fed}
use Rattle.slot_match.specs.declared.matching.Served.{Served}
use Rattle.slot_match.specs.Rows.{Names}
use Rattle.slot_match.specs.Matches.{fed_of, Serves}
use Rattle.slot_match.proofs.ServedParts.{served_of-is, served_of-served}
use Rattle.eslip_rounds.proofs.Unique.{Serves-named}
use Rattle.cell_cutter.specs.declared.cell.Cell.{Cell}
use Rattle.crossbar.specs.Crossing.{deposit_by}
use Rattle.crossbar.specs.declared.cards.Post.{Post as CardPost}
use Rattle.slot_histories.specs.declared.events.Event.{Event}
use Rattle.slot_histories.specs.Events.{Setup, decides, posted, no_post}
use Rattle.slot_histories.specs.Slots.{slot_posts, slot_rows, places_at, decision_at, served_at, crossed}
use Rattle.slot_histories.specs.Legal.{IsGrantedCell, IsLegal}
use Rattle.slot_histories.specs.Parts.{IsPartOf, IsCellOf}
use Rattle.slot_histories.proofs.LegalLists.{AreInStep-legal, AreAccepted-legal}
use Rattle.slot_histories.proofs.PostedRows.{length-slot_posts, row_of-slot_rows}
use Rattle.slot_histories.proofs.SoundDecisions.{decision_at-legal, decision_at-slot}

not_both : {A : Type 0} (kind again : Kind) → kind ≡ Uni → kind ≡ Multi → A
not_both kind again uni multi = cc

module _ (s : Setup) (events : List Event) (some : 0 < s.ports) (size : s.ports ≤ MAX_PORTS) (legal : IsLegal s events) where
  named_pair : (t : ℕ) → t < decides events → (i j level : ℕ) (kind : Kind) → i < s.ports → Serves (decision_at s (posted events) t).matched i j level kind
      → Names (posted events i t).row level kind j
  named_pair t below i j level kind inside serves =
      subst (λ row. Names row level kind j) (row_of-slot_rows s.ports (posted events) t i inside)
      (Serves-named s.ports s.rounds t (slot_rows s.ports (posted events) t) (places_at s (posted events) t) (decision_at s (posted events) t)
      (decision_at-slot s events some size legal t below) i j level kind serves)

  pub served-part : (i t : ℕ) (served : Served) → t < decides events → i < s.ports → served_at s (posted events) i t ≡ Some served
      → IsPartOf (posted events i t).row served
  served-part i t served below inside is =
      let matches = (decision_at-legal s events some size legal t below).matches in
      let part = served_of-is s.ports (decision_at s (posted events) t).matched matches i served is in
      record {
        some = part.some;
        named = λ j has. named_pair t below i j served.level served.kind inside ((part.outputs j).0 has);
        one = λ uni j k has again. elim
            (matches.once i j served.level served.kind k served.level served.kind ((part.outputs j).0 has) ((part.outputs k).0 again)) [
              | inl same ↦ same
              | inr twice ↦ not_both served.kind served.kind uni twice.1
            ];
        level = let first = part.some in matches.level_in i first.0 served.level served.kind ((part.outputs first.0).0 first.1);
      }

  -- the cell that an input posted for the next slot
  posted_cell : (t i : ℕ) → i < s.ports → slice_index_or (map (λ post. post.cell) (slot_posts s.ports (posted events) t)) i None ≡ (posted events i t).cell
  posted_cell t i inside =
      let cell : CardPost → Option Cell = λ post. post.cell in
      get_or-map cell (slot_posts s.ports (posted events) t) i no_post None (omega (arith, length-slot_posts s.ports (posted events) t))
      ∙ ap cell (get_or-map-range_with_len (λ j. posted events j t) 0 s.ports i i no_post inside (omega arith))

  module _ (j t : ℕ) (cell : Cell) (below : suc t < decides events) where
    from_input : (fed : Fed) → fed_of (decision_at s (posted events) t).matched j ≡ Some fed
        → deposit_by (map (λ post. post.cell) (slot_posts s.ports (posted events) (suc t))) (Some fed) ≡ Some cell → IsCellOf fed cell
    from_input fed feeds is =
        let step = AreInStep-legal s events legal in
        let stand = AreAccepted-legal s events legal in
        let matches = (decision_at-legal s events some size legal t (omega arith)).matches in
        let inside : fed.input < s.ports = matches.input_in fed.input j fed.level fed.kind feeds in
        let part = served_of-served s.ports (decision_at s (posted events) t).matched matches fed.input j fed.level fed.kind feeds in
        let only = part.2.only j fed.level fed.kind feeds in
        let accepted = (stand.accepted fed.input (suc t) inside (omega (arith, step.decided_posted fed.input inside))).cell in
        let post = (posted events fed.input (suc t)).cell in
        let granted = subst (IsGrantedCell fed.input (Some part.0)) (sym (posted_cell (suc t) fed.input inside) ∙ is)
        (subst (λ served. IsGrantedCell fed.input served post) part.1 accepted) in
        record { form = granted.0; input = granted.1; level = granted.2 ∙ sym only.0; kind = granted.3 ∙ sym only.1 }

    by_feed : (o : Option Fed) → fed_of (decision_at s (posted events) t).matched j ≡ o
        → deposit_by (map (λ post. post.cell) (slot_posts s.ports (posted events) (suc t))) o ≡ Some cell → (fed : Fed)
        × (fed_of (decision_at s (posted events) t).matched j ≡ Some fed) × IsCellOf fed cell
    by_feed None feeds is = absurd (cc)
    by_feed (Some fed) feeds is = (fed, feeds, from_input fed feeds is)

    pub crossed-cell : crossed s (posted events) j (suc t) ≡ Some cell → (fed : Fed) × (fed_of (decision_at s (posted events) t).matched j ≡ Some fed)
        × IsCellOf fed cell
    crossed-cell is = by_feed (fed_of (decision_at s (posted events) t).matched j) refl is
