-- Histories: what stands of a list of turns stands of its parts.
use Rattle.std.proofs.Common.{◌≡◌, ◌≢◌, ◌+◌, ◌<◌, ◌≤◌, ◌==◌, ℕ, Bool, true, false, List, [], ◌∷◌, ◌++◌, length, refl, sym, ap, ◌∙◌, arith, length-append}
use Rattle.std.specs.Prelude.{if◌then◌else◌}
use Rattle.std.proofs.lemmas.List.{append-nil, append_assoc}
use Rattle.std.proofs.lemmas.Bool.Decides.{nat_tests}
use Rattle.turn_lock.specs.declared.history.TurnOf.{TurnOf}
use Rattle.turn_lock.specs.Histories.{IsPrefixOf, entries_of, turns_of, IsAllowed, IsBelow}

module _ {X : Type 0} where
  pub IsPrefixOf-length : (xs ys : List X) → IsPrefixOf xs ys → length xs ≤ length ys
  IsPrefixOf-length xs ys p = omega (arith, ap length p.1, length-append xs p.0)

module _ {E : Type 0} where
  pub entries_of-append : (xs ys : List (TurnOf E)) → entries_of (xs ++ ys) ≡ entries_of xs ++ entries_of ys
  entries_of-append [] ys = refl
  entries_of-append (t ∷ xs) ys = ap (λ es. t.entries ++ es) (entries_of-append xs ys) ∙ sym (append_assoc t.entries (entries_of xs) (entries_of ys))

  pub entries_of-snoc : (h : List (TurnOf E)) (t : TurnOf E) → entries_of (h ++ t ∷ []) ≡ entries_of h ++ t.entries
  entries_of-snoc h t = entries_of-append h (t ∷ []) ∙ ap (λ es. entries_of h ++ es) (append-nil t.entries)

  turns_of-cons : (n : ℕ) (t : TurnOf E) (b : Bool) (xs ys : List (TurnOf E)) → (if b then t ∷ (xs ++ ys) else xs ++ ys) ≡ (if b then t ∷ xs else xs) ++ ys
  turns_of-cons n t true xs ys = refl
  turns_of-cons n t false xs ys = refl

  pub turns_of-append : (n : ℕ) (xs ys : List (TurnOf E)) → turns_of n (xs ++ ys) ≡ turns_of n xs ++ turns_of n ys
  turns_of-append n [] ys = refl
  turns_of-append n (t ∷ xs) ys = ap (λ ts. if t.seat == n then t ∷ ts else ts) (turns_of-append n xs ys)
      ∙ turns_of-cons n t (t.seat == n) (turns_of n xs) (turns_of n ys)

  -- a turn of the seat's own
  pub turns_of-own : (t : TurnOf E) → turns_of t.seat (t ∷ []) ≡ t ∷ []
  turns_of-own t = let b : (t.seat == t.seat) ≡ true = grind (arith, nat_tests) in rw b refl

  -- a further turn of another seat
  pub turns_of-other : (n : ℕ) (h : List (TurnOf E)) (t : TurnOf E) → n ≢ t.seat → turns_of n (h ++ t ∷ []) ≡ turns_of n h
  turns_of-other n [] t ne = let b : (t.seat == n) ≡ false = grind (arith, nat_tests) in rw b refl
  turns_of-other n (u ∷ h) t ne = ap (λ ts. if u.seat == n then u ∷ ts else ts) (turns_of-other n h t ne)

  -- where no turn is a seat's, the first is not, nor is one of the others
  pub turns_of-nil : (n : ℕ) (t : TurnOf E) (ts : List (TurnOf E)) → turns_of n (t ∷ ts) ≡ [] → (t.seat ≢ n) × (turns_of n ts ≡ [])
  turns_of-nil n t ts e = kept_nil (t.seat == n) refl e
    where
      kept_nil : (b : Bool) → (t.seat == n) ≡ b → (if b then t ∷ turns_of n ts else turns_of n ts) ≡ [] → (t.seat ≢ n) × (turns_of n ts ≡ [])
      kept_nil true is f = absurd (cc)
      kept_nil false is f = (λ same. absurd (grind (arith, nat_tests)), f)

  -- a number that was not given has no turn
  pub turns_of-none : (g : ℕ) (h : List (TurnOf E)) → IsBelow g h → turns_of g h ≡ []
  turns_of-none g [] b = refl
  turns_of-none g (t ∷ h) b = let l : t.seat < g = b.0 in let n : (t.seat == g) ≡ false = grind (arith, nat_tests) in rw n (turns_of-none g h b.1)

  -- where one number was given, all turns are its own
  pub turns_of-all : (h : List (TurnOf E)) → IsBelow 1 h → turns_of 0 h ≡ h
  turns_of-all [] b = refl
  turns_of-all (t ∷ h) b = let l : t.seat < 1 = b.0 in let n : (t.seat == 0) ≡ true = grind (arith, nat_tests) in rw n (ap (λ ts. t ∷ ts) (turns_of-all h b.1))

  pub IsBelow-append : (g : ℕ) (xs ys : List (TurnOf E)) → IsBelow g (xs ++ ys) → IsBelow g xs × IsBelow g ys
  IsBelow-append g [] ys b = (tt, b)
  IsBelow-append g (x ∷ xs) ys b = let parts = IsBelow-append g xs ys b.1 in ((b.0, parts.0), parts.1)

  pub IsBelow-snoc : (g : ℕ) (h : List (TurnOf E)) (t : TurnOf E) → IsBelow g h → t.seat < g → IsBelow g (h ++ t ∷ [])
  IsBelow-snoc g [] t b l = (l, tt)
  IsBelow-snoc g (u ∷ h) t b l = (b.0, IsBelow-snoc g h t b.1 l)

  pub IsBelow-more : (g : ℕ) (h : List (TurnOf E)) → IsBelow g h → IsBelow (g + 1) h
  IsBelow-more g [] b = tt
  IsBelow-more g (t ∷ h) b = (let l : t.seat < g = b.0 in omega arith, IsBelow-more g h b.1)

  module _ (may : ℕ → List E → Type 0) where
    pub IsAllowed-append : (xs ys : List (TurnOf E)) → IsAllowed may (xs ++ ys) → IsAllowed may xs × IsAllowed may ys
    IsAllowed-append [] ys a = (tt, a)
    IsAllowed-append (x ∷ xs) ys a = let parts = IsAllowed-append xs ys a.1 in ((a.0, parts.0), parts.1)

    pub IsAllowed-snoc : (h : List (TurnOf E)) (t : TurnOf E) → IsAllowed may h → may t.seat t.entries → IsAllowed may (h ++ t ∷ [])
    IsAllowed-snoc [] t a m = (m, tt)
    IsAllowed-snoc (u ∷ h) t a m = (a.0, IsAllowed-snoc h t a.1 m)
