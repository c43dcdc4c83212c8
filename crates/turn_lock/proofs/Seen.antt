-- What the views have seen of a history that grows.
use Rattle.std.proofs.Common.{◌≡◌, ◌≢◌, ◌+◌, ◌^◌, ◌<◌, ◌≤◌, ◌⊎◌, inl, inr, ℕ, List, [], ◌∷◌, ◌++◌, length, sym, ap, ◌∙◌, subst, arith}
use Rattle.std.proofs.Common.{length-append}
use Rattle.std.proofs.lemmas.List.{append_assoc}
use Rattle.std_lemmas.proofs.Lists.{append_same-nil}
use Rattle.turn_lock.specs.declared.history.TurnOf.{TurnOf}
use Rattle.turn_lock.specs.declared.history.Opening.{Opening}
use Rattle.turn_lock.specs.declared.view.View.{View}
use Rattle.turn_lock.specs.declared.view.JoinedSeat.{JoinedSeat}
use Rattle.turn_lock.specs.Histories.{turns_of, IsBelow}
use Rattle.turn_lock.specs.Views.{joined_numbers}
use Rattle.turn_lock.specs.Rule.{IsIn, HasSeen, IsOvertaken, JoinedHaveSeen, Fits}
use Rattle.turn_lock.proofs.HistoryLemmas.{IsPrefixOf-length, turns_of-append, turns_of-other, turns_of-all, IsBelow-append}

change : {A P Q C : Type 0} → (P → Q ⊎ C) → A ⊎ (P ⊎ C) → A ⊎ (Q ⊎ C)
change f (inl a) = inl a
change f (inr (inl p)) = inr (f p)
change f (inr (inr c)) = inr (inr c)

module _ {E : Type 0} where
  -- what a seat had seen, beside a further turn of another
  pub HasSeen-more : (h : List (TurnOf E)) (t : TurnOf E) (n : ℕ) (seen : List (TurnOf E)) → n ≢ t.seat → HasSeen h n seen → HasSeen (h ++ t ∷ []) n seen
  HasSeen-more h t n seen ne s = ((s.0.0 ++ t ∷ [], ap (λ ts. ts ++ t ∷ []) s.0.1 ∙ append_assoc seen s.0.0 (t ∷ [])), turns_of-other n h t ne ∙ s.1)

  -- who has seen some of the history has seen less than one with a further turn
  pub HasSeen-shorter : (h : List (TurnOf E)) (t : TurnOf E) (n : ℕ) (seen : List (TurnOf E)) → HasSeen h n seen → length seen < length (h ++ t ∷ [])
  HasSeen-shorter h t n seen s = let l = IsPrefixOf-length seen h s.0 in let more = length-append h (t ∷ []) in omega arith

  module _ (P Q : Type 0) where
    pub JoinedHaveSeen-more : (h : List (TurnOf E)) (t : TurnOf E) (ms : List (JoinedSeat E)) → (IsIn t.seat (joined_numbers ms) → ⊥) → JoinedHaveSeen h P ms
        → JoinedHaveSeen (h ++ t ∷ []) Q ms
    JoinedHaveSeen-more h t [] out f = tt
    JoinedHaveSeen-more h t (m ∷ ms) out f = (
      HasSeen-more h t m.number m.seen (λ e. out (inl (sym e))) f.0,
      λ _. inl (HasSeen-shorter h t m.number m.seen f.0),
      JoinedHaveSeen-more h t ms (λ x. out (inr x)) f.2,
    )

    -- beside the same history, where what may let it grow changes
    module _ (h : List (TurnOf E)) (f : P → Q ⊎ (2 ^ 64 ≤ length h + 1)) where
      pub IsOvertaken-change : (seen : List (TurnOf E)) (since : ℕ) → IsOvertaken h P seen since → IsOvertaken h Q seen since
      IsOvertaken-change seen since o n = change f (o n)

      pub JoinedHaveSeen-change : (ms : List (JoinedSeat E)) → JoinedHaveSeen h P ms → JoinedHaveSeen h Q ms
      JoinedHaveSeen-change [] g = tt
      JoinedHaveSeen-change (m ∷ ms) g = (g.0, IsOvertaken-change m.seen m.since g.1, JoinedHaveSeen-change ms g.2)

  -- the same of a whole view
  pub Fits-change : (o : Opening E) (h : List (TurnOf E)) (A B P Q : Type 0) (v : View E) → (A → B ⊎ (2 ^ 64 ≤ length h + 1))
      → (P → Q ⊎ (2 ^ 64 ≤ length h + 1)) → Fits o h A P v → Fits o h B Q v
  Fits-change o h A B P Q v f g fit =
      record {
        opening = fit.opening;
        seen = fit.seen;
        joined = JoinedHaveSeen-change P Q h g v.joined fit.joined;
        overtaken = IsOvertaken-change A B h f v.seen v.since fit.overtaken;
      }

  -- what was not seen has no turn of the seat's own
  pub others_between : (h : List (TurnOf E)) (n : ℕ) (seen : List (TurnOf E)) (s : HasSeen h n seen) → turns_of n s.0.0 ≡ []
  others_between h n seen s =
      append_same-nil (turns_of n seen) (turns_of n s.0.0) (sym (turns_of-append n seen s.0.0) ∙ ap (λ ts. turns_of n ts) (sym s.0.1) ∙ s.1)

  -- where one number was given, its seat has seen the whole history
  pub one_has_seen : (h : List (TurnOf E)) (n : ℕ) (seen : List (TurnOf E)) → n ≡ 0 → IsBelow 1 h → HasSeen h n seen → h ≡ seen
  one_has_seen h n seen z b s =
      let own : turns_of 0 h ≡ turns_of 0 seen = subst (λ k. turns_of k h ≡ turns_of k seen) z s.1 in
      let within : IsBelow 1 seen = (IsBelow-append 1 seen s.0.0 (subst (λ ts. IsBelow 1 ts) s.0.1 b)).0 in
      sym (turns_of-all h b) ∙ own ∙ turns_of-all seen within
