-- How the family of more rounds comes about: the slots of the window before the levels, its length, and the opening.
use Rattle.std.proofs.Common.{◌≡◌, ℕ, zero, suc, ◌+◌, ◌-◌, ◌*◌, ◌/◌, ◌%◌, ◌<◌, ◌≤◌, ◌∙◌, List, [], ◌∷◌, length, drop, refl, ap, sym, subst, inl, inr, arith}
use Rattle.std.proofs.Math.Nat.{mod-eq_of_lt}
use Rattle.std.proofs.lemmas.Bool.{cases_lt}
use Rattle.std_lemmas.proofs.Numbers.{mod_once}
use Rattle.rotating_pick.specs.Rotation.{distance}
use Rattle.rotating_pick.specs.declared.limits.TheConstants.{MAX_PORTS}
use Rattle.rotating_pick.specs.declared.kinds.Kind.TheVariants.{Uni}
use Rattle.slot_match.specs.Rows.{Names, row_of, AreWithin}
use Rattle.pointer_state.specs.Places.{Places, ArePointing, places_at_first, grant_of, accept_of}
use Rattle.pointer_state.proofs.Moves.{AreAtPorts-at_first}
use Rattle.pointer_state.proofs.Tables.{place_of-at_first}
use Rattle.eslip_rounds.specs.Schedules.{DecidedSlot, IsSchedule}
use Rattle.service_bound.specs.Windows.{IsClean, IsWithoutMulticast}
use Rattle.service_bound.specs.Latest.{IsServedLast}
use Rattle.service_bound.specs.Waits.{longest_service}
use Rattle.service_bound.proofs.Distances.{distance-below, distance-own}
use Rattle.service_bound.proofs.PostedRuns.{IsSwitch}
use Rattle.scheduler_laws.specs.Reached.{AreFedAtLineRate, ComesLastAtLineRate}
use Rattle.scheduler_laws.proofs.Plans.{Plan, names, AreWithin-rows, IsClean-rows, IsWithoutMulticast-rows}
use Rattle.scheduler_laws.proofs.NextPlans.{Follows, Starts}
use Rattle.scheduler_laws.proofs.PlannedRuns.{run, length-run, All-run, IsLateBy-before, opens_run, Leads, leads_none}
use Rattle.scheduler_laws.proofs.PlannedRuns.{leads_before, led, kept_all}
use Rattle.scheduler_laws.proofs.ManySlots.{decided_in, slot_decided_in, IsSwitch-after_in, many_step_of, serving_others}
use Rattle.scheduler_laws.proofs.Shapes.{nothing, takes, ends, again, passes, wins, both, suits_takes, suits_ends, suits_again, suits_both, suits_wins}
use Rattle.scheduler_laws.proofs.MoreShapes.{closes, readies, readies_too, crosses_by}
use Rattle.scheduler_laws.proofs.Settled.{settles_takes, settles_ends, settles_again, settles_wins, settles_both}
use Rattle.scheduler_laws.proofs.Followings.{again_takes, again_wins, takes_wins, wins_both, both_both}
use Rattle.scheduler_laws.proofs.MoreFollowings.{both_crosses_by, wins_crosses_by}
use Rattle.scheduler_laws.proofs.FedRuns.{fed_at_line_rate}
use Rattle.scheduler_laws.proofs.Openings.{openings, starts_openings, follows_openings, starts_first}
use Rattle.scheduler_laws.proofs.OneRoundFamily.{downs, length-downs, boths, length-boths, starts_boths}
use Rattle.scheduler_laws.proofs.MoreRoundsFamily.{sharings, goes, before, climbs, level, backs, levels, body, IsBase, IsLateIn}
use Rattle.scheduler_laws.proofs.ThreePorts.{three, late_three}
use Rattle.scheduler_laws.proofs.MoreLevels.{late_crosses}

-- ---- how many slots these are
pub length-sharings : (l x k y : ℕ) (rest : List Plan) → length (sharings l x y k rest) ≡ k + length rest
length-sharings l x zero y rest = omega arith
length-sharings l x (suc k) y rest = let e = length-sharings l x k (y + 1) rest in omega arith

-- going down
length-goes : (l x f u : ℕ) (rest : List Plan) → length (goes l x f u rest) ≡ l - (f + 1) + 1 + length rest
length-goes l x f u rest = let e = length-sharings l x (l - (f + 1)) (f + 1) (closes l x f u ∷ rest) in omega arith

-- the inputs of a level but the last
length-climbs : (l p f k : ℕ) (rest : List Plan) → length (climbs l p f k rest) ≡ k * (l - (f + 1) + 2) + length rest
length-climbs l p f zero rest = omega arith
length-climbs l p f (suc k) rest =
    let first = length-goes l (p + k) f (before p k) (climbs l p f k rest) in
    let more = length-climbs l p f k rest in
    omega arith

-- a level
length-level : (l p f k : ℕ) (rest : List Plan) → length (level l p f k rest) ≡ l - (f + 1) + 1 + (k * (l - (f + 1) + 2) + (1 + length rest))
length-level l p f k rest =
    let first = length-goes l l f (before p k) (climbs l p f k (passes p ∷ rest)) in
    let more = length-climbs l p f k (passes p ∷ rest) in
    omega arith

-- the way back
length-backs : (p k y : ℕ) (rest : List Plan) → length (backs p y k rest) ≡ k + length rest
length-backs p zero y rest = omega arith
length-backs p (suc k) y rest = let e = length-backs p k (y + 1) rest in omega arith

-- twice the slots of the levels, where m is n - 2
twice_levels : (m l : ℕ) → l ≡ m + 1 → 1 < m → (k p : ℕ) → k < m → 2 * length (levels l p k) ≡ 2 * ((k + 1) * (2 * m + 1)) + m * (k * (k + 1)) + 2
twice_levels m l e more zero p few =
    let level_is = length-level l p 2 0 (downs 0 2 (l - 1) (ends 0 ∷ [])) in
    let down = length-downs 0 (l - 1) 2 (ends 0 ∷ []) in
    omega arith
twice_levels m l e more (suc k) p few =
    let rest = readies l ∷ levels l (p + 1) k in
    let back = downs 0 (2 + suc k) (l - (2 + suc k)) rest in
    let one = length-level l p 2 (suc k) (backs (p + 1) 2 (suc k) back) in
    let wide : l - (2 + 1) + 2 ≡ m = omega arith in
    let one_too : length (level l p 2 (suc k) (backs (p + 1) 2 (suc k) back)) ≡ l - (2 + 1) + 1 + (suc k * m + (1 + length (backs (p + 1) 2 (suc k) back))) =
    one ∙ ap (λ v. l - (2 + 1) + 1 + (suc k * v + (1 + length (backs (p + 1) 2 (suc k) back)))) wide in
    let two = length-backs (p + 1) (suc k) 2 back in
    let three = length-downs 0 (l - (2 + suc k)) (2 + suc k) rest in
    let later = twice_levels m l e more k (p + 1) (omega arith) in
    omega (arith, one_too, two, three, later)

-- their sum, doubled
sum-is : (j l b s : ℕ) → l ≡ j + 2 → b ≡ j + 1 + ((j + 1) * (j + 2) + (1 + (j + (1 + s))))
    → 2 * s ≡ 2 * ((j + 1) * (2 * (j + 1) + 1)) + (j + 1) * (j * (j + 1)) + 2 → 2 * (l + b + 1) ≡ (l + 1) * ((l + 1) * (l + 1) - (l + 1) + 2)
sum-is j l b s el eb es =
    let inner : (l + 1) * (l + 1) - (l + 1) ≡ j * j + 5 * j + 6 = rw el (omega arith) in
    let right : (l + 1) * ((l + 1) * (l + 1) - (l + 1) + 2) ≡ (j + 3) * (j * j + 5 * j + 8) = ap (λ v. (l + 1) * (v + 2)) inner ∙ rw el (omega arith) in
    omega (arith, el, eb, es, right)

-- a number by its double
halved : (a b : ℕ) → 2 * a ≡ b → a ≡ b / 2
halved a b e = omega arith

-- with the l slots before the levels
length-all : (l : ℕ) → 2 < l → l + length (body l) + 1 ≡ longest_service (l + 1)
length-all l high =
    let j = l - 2 in
    let el : l ≡ j + 2 = omega arith in
    let rest = readies_too l 2 ∷ levels l 2 j in
    let first = length-level l 1 1 (l - 1) (backs 3 2 j rest) in
    let back = length-backs 3 j 2 rest in
    let second : length (backs 3 2 j rest) ≡ j + (1 + length (levels l 2 j)) = omega (arith, back) in
    let down : l - (1 + 1) + 1 ≡ j + 1 = omega arith in
    let wide : l - (1 + 1) + 2 ≡ j + 2 = omega arith in
    let count : l - 1 ≡ j + 1 = omega arith in
    let long : length (body l) ≡ j + 1 + ((j + 1) * (j + 2) + (1 + length (backs 3 2 j rest))) =
    first ∙ ap (λ v. v + ((l - 1) * (l - (1 + 1) + 2) + (1 + length (backs 3 2 j rest)))) down ∙ ap
    (λ v. j + 1 + ((l - 1) * v + (1 + length (backs 3 2 j rest)))) wide ∙ ap (λ v. j + 1 + (v * (j + 2) + (1 + length (backs 3 2 j rest)))) count in
    let eb : length (body l) ≡ j + 1 + ((j + 1) * (j + 2) + (1 + (j + (1 + length (levels l 2 j))))) = long ∙ ap
    (λ v. j + 1 + ((j + 1) * (j + 2) + (1 + v))) second in
    halved (l + length (body l) + 1) ((l + 1) * ((l + 1) * (l + 1) - (l + 1) + 2))
    (sum-is j l (length (body l)) (length (levels l 2 j)) el eb (twice_levels (j + 1) l (omega arith) (omega arith) j 2 (omega arith)))

-- ---- the slots before the levels
-- the window of four ports or more
abbrev four_on : ℕ → List Plan
four_on l = takes 0 1 ∷ wins 2 l ∷ boths l 3 (l - 3) (crosses_by l l ∷ body l)

-- all inputs and output 0 point at port 1, and the other outputs at port 0
record IsBeginning (n : ℕ) (places : Places) : Type 0 where
  base : IsBase n 1 1 n 1 places
  at : accept_of places 0 0 ≡ 1
  others : (m : ℕ) → 0 < m → grant_of places m 0 ≡ 0

module _ (rounds n l : ℕ) (two : 1 < rounds) (sum : l + 1 ≡ n) (high : 2 < l) where
  -- input 0 goes on down, while the last input takes output 2 and has one cell more for it
  late_boths : (k y t : ℕ) (places : Places) → 2 < y → y + k ≡ l → IsBase n 1 1 l 1 places → accept_of places 0 0 ≡ y
      → distance n (accept_of places l 0) 1 ≤ distance n (accept_of places l 0) 2
      → IsLateIn rounds n t places (boths l y k (crosses_by l l ∷ body l))
  late_boths zero y t places some_y all base at near = late_crosses rounds n l two sum high t places base (at ∙ omega arith) near
  late_boths (suc k) y t places some_y all base at near =
      let it = both y l in
      let suits = suits_both n places y l some_y (omega arith) (omega arith) (omega arith) at in
      let step = many_step_of rounds n t places it (omega arith) base.switch suits (omega arith) in
      let after = (decided_in rounds n t places it).places in
      let three : accept_of after l 0 ≡ 3 = step.accepted l 2 (inr (inl (refl, refl))) ∙ mod-eq_of_lt (omega arith) in
      let one : distance n (accept_of after l 0) 1 + 3 ≡ 1 + n = ap (λ f. distance n f 1 + 3) three ∙ distance-below n 3 1 (omega arith) (omega arith)
      (omega arith) in
      let other : distance n (accept_of after l 0) 2 + 3 ≡ 2 + n = ap (λ f. distance n f 2 + 3) three ∙ distance-below n 3 2 (omega arith) (omega arith)
      (omega arith) in
      let next : IsBase n 1 1 l 1 after = record {
        switch = IsSwitch-after_in rounds n t places it base.switch;
        grant = step.grant_stays 0
            (λ i is. elim is [ inl s ↦ let e = s.1 in omega arith | inr more ↦ elim more [ inl s ↦ let e = s.1 in omega arith | inr none ↦ none ] ])
            ∙ base.grant;
        fresh = λ i i_low i_high. step.accept_stays i
            (λ j is. elim is [ inl s ↦ let e = s.0 in omega arith | inr more ↦ elim more [ inl s ↦ let e = s.0 in omega arith | inr none ↦ none ] ])
            ∙ base.fresh i i_low i_high;
      } in
      IsLateBy-before n (decided_in rounds n) t places it (boths l (y + 1) k (crosses_by l l ∷ body l)) (follows k all)
      (serving_others rounds n t places it (omega arith) base.switch suits (omega arith) y (omega arith) (inl (refl, refl)) (settles_both y l))
      (late_boths k (y + 1) (t + 1) after (omega arith) (omega arith) next (step.accepted 0 y (inl (refl, refl)) ∙ mod-eq_of_lt (omega arith))
      (omega arith)) where
        follows : (k : ℕ) → y + suc k ≡ l → Starts (Follows (both y l)) (boths l (y + 1) k (crosses_by l l ∷ body l))
        follows zero all = let e : y + 1 ≡ l = omega arith in
            subst (λ v. Follows (both y l) (crosses_by v l)) e (both_crosses_by y l (omega arith) (omega arith))
        follows (suc k) all = both_both y l (omega arith) (omega arith)

  -- it is late from the beginning
  late_four_on : (t : ℕ) (places : Places) → IsBeginning n places → IsLateIn rounds n t places (four_on l)
  late_four_on t places begins =
      let it = wins 2 l in
      let last = crosses_by l l ∷ body l in
      let rest = boths l 3 (l - 3) last in
      let first = takes 0 1 in
      let start = begins.base in
      let down = suits_takes n places 0 1 (omega arith) (omega arith) (omega arith) (inl refl) begins.at in
      let taken = many_step_of rounds n t places first (omega arith) start.switch down (omega arith) in
      let before = (decided_in rounds n t places first).places in
      let base : IsBase n 1 1 n 1 before = record {
        switch = IsSwitch-after_in rounds n t places first start.switch;
        grant = taken.grant_stays 0 (λ i is. elim is [ inl s ↦ let e = s.1 in omega arith | inr none ↦ none ]) ∙ start.grant;
        fresh = λ i i_low i_high. taken.accept_stays i (λ j is. elim is [ inl s ↦ let e = s.0 in omega arith | inr none ↦ none ])
            ∙ start.fresh i i_low i_high;
      } in
      let zero_at : grant_of before 2 0 ≡ 0 = taken.grant_stays 2 (λ i is. elim is [ inl s ↦ let e = s.1 in omega arith | inr none ↦ none ])
      ∙ begins.others 2 (omega arith) in
      let at : accept_of before 0 0 ≡ 2 = taken.accepted 0 1 (inl (refl, refl)) ∙ mod-eq_of_lt (omega arith) in
      let suits = suits_wins n before 2 l (omega arith) (omega arith) (omega arith) at zero_at in
      let step = many_step_of rounds n (t + 1) before it (omega arith) base.switch suits (omega arith) in
      let after = (decided_in rounds n (t + 1) before it).places in
      let fresh : (i : ℕ) → 1 ≤ i → i < n → accept_of after i 0 ≡ 1 = λ i i_low i_high. step.accept_stays i
      (λ j is. elim is [ inl s ↦ let e = s.0 in omega arith | inr none ↦ none ]) ∙ base.fresh i i_low i_high in
      let near : distance n (accept_of after l 0) 1 ≡ 0 = ap (λ f. distance n f 1) (fresh l (omega arith) (omega arith)) ∙ distance-own n 1 (omega arith) in
      IsLateBy-before n (decided_in rounds n) t places first (it ∷ rest) (takes_wins 1 2 l (omega arith) (omega arith))
      (serving_others rounds n t places first (omega arith) start.switch down (omega arith) 1 (omega arith) (inl (refl, refl)) (settles_takes 1))
      (IsLateBy-before n (decided_in rounds n) (t + 1) before it rest
      (starts_boths (Follows it) l (l - 3) 3 last (wins_both 3 l (omega arith)) (wins_crosses_by l l (omega arith)))
      (serving_others rounds n (t + 1) before it (omega arith) base.switch suits (omega arith) 2 (omega arith) (inl (refl, refl)) (settles_wins 2 l))
      (late_boths (l - 3) 3 (t + 1 + 1) after (omega arith) (omega arith) (record {
        switch = IsSwitch-after_in rounds n (t + 1) before it base.switch;
        grant = step.grant_stays 0 (λ i is. elim is [ inl s ↦ let e = s.1 in omega arith | inr none ↦ none ]) ∙ base.grant;
        fresh = λ i i_low i_high. fresh i i_low (omega arith);
      }) (step.accepted 0 2 (inl (refl, refl)) ∙ mod-eq_of_lt (omega arith)) (omega arith)))

-- ---- the opening
-- Output 0 points at port x, the other outputs at port 0, and the inputs below x at port 1. A port n is port 0.
record IsOpened (n : ℕ) (places : Places) (x : ℕ) : Type 0 where
  switch : IsSwitch n places
  grant : grant_of places 0 0 ≡ x % n
  others : (y : ℕ) → 0 < y → grant_of places y 0 ≡ 0
  accepts : (i : ℕ) → i < x → accept_of places i 0 ≡ 1

-- the run is a schedule
IsSchedule-run : (rounds n t : ℕ) (places : Places) (ps : List Plan) → IsSwitch n places
    → IsSchedule n rounds t places (run n (decided_in rounds n) t places ps)
IsSchedule-run rounds n t places [] switch = tt
IsSchedule-run rounds n t places (p ∷ ps) switch = (
  slot_decided_in rounds n t places p switch,
  IsSchedule-run rounds n (t + 1) (decided_in rounds n t places p).places ps (IsSwitch-after_in rounds n t places p switch),
)

-- What is late from pointers of a switch is a window in which queue (0, 0) is served in the last slot alone.
IsServedLast-run : (rounds n t : ℕ) (places : Places) (ps : List Plan) → IsSwitch n places → IsLateIn rounds n t places ps
    → IsServedLast n rounds t 0 0 0 places (run n (decided_in rounds n) t places ps)
IsServedLast-run rounds n t places ps switch late =
    let some : 0 < n = subst (λ m. 0 < m) switch.ports switch.at_ports.some in
    let rule = decided_in rounds n in
    record {
      at_ports = switch.at_ports;
      ports = switch.ports;
      window = record {
        pointing = subst (λ m. ArePointing m 0 places) switch.ports (switch.at_ports.pointing 0 (omega arith));
        schedule = IsSchedule-run rounds n t places ps switch;
        within = All-run n rule t places (AreWithin n) (AreWithin-rows n) ps;
        kept = late.run_kept.kept;
        clean = All-run n rule t places (IsClean n 0) (IsClean-rows n) ps;
      };
      alone = All-run n rule t places (IsWithoutMulticast n 0) (IsWithoutMulticast-rows n) ps;
      posted = All-run n rule t places (λ rows. Names (row_of rows 0) 0 Uni 0) (λ p. names n p 0 0 some some (inl (refl, refl))) ps;
      last = late.last;
    }

module _ (rounds n : ℕ) (two : 1 < rounds) (ports : 1 < n) (rest : List Plan) (starts : Starts (Follows again) rest) where
  -- the opening leads to where the window begins
  opens : (k x t : ℕ) (places : Places) → x + k ≡ n → IsOpened n places x
      → (leads : Leads n (decided_in rounds n) t places (openings x k rest) rest) × IsBeginning n leads.after × (leads.count ≡ suc k)
  opens zero x t places sum opened =
      let same : x ≡ n = omega arith in
      let round : x % n ≡ 0 = ap (λ v. v % n) same ∙ mod_once n n (omega arith) (omega arith) ∙ omega arith in
      let step = many_step_of rounds n t places again (omega arith) opened.switch (suits_again n places (omega arith) (opened.grant ∙ round))
      (omega arith) in
      let after = (decided_in rounds n t places again).places in (
        leads_before n (decided_in rounds n) t places again rest rest (record { serving = step.serving settles_again; follows = starts })
            (leads_none n (decided_in rounds n) (t + 1) after rest),
        record {
          base = record {
            switch = IsSwitch-after_in rounds n t places again opened.switch;
            grant = step.granted 0 0 (inl (refl, refl));
            fresh = λ i late i_in. step.accept_stays i (λ j is. elim is [ inl s ↦ let e = s.0 in omega arith | inr none ↦ none ])
                ∙ opened.accepts i (omega arith);
          };
          at = step.accepted 0 0 (inl (refl, refl)) ∙ mod-eq_of_lt ports;
          others = λ m yes. step.grant_stays m (λ i is. elim is [ inl s ↦ let e = s.1 in omega arith | inr none ↦ none ]) ∙ opened.others m yes;
        },
        refl,
      )
  opens (suc k) x t places sum opened =
      let x_in : x < n = omega arith in
      let step = many_step_of rounds n t places (ends x) (omega arith) opened.switch (suits_ends n places x x_in (opened.grant ∙ mod-eq_of_lt x_in))
      (omega arith) in
      let after = (decided_in rounds n t places (ends x)).places in
      let next : IsOpened n after (x + 1) = record {
        switch = IsSwitch-after_in rounds n t places (ends x) opened.switch;
        grant = step.granted x 0 (inl (refl, refl));
        others = λ y yes. step.grant_stays y (λ i is. elim is [ inl s ↦ let e = s.1 in omega arith | inr none ↦ none ]) ∙ opened.others y yes;
        accepts = λ i below. elim (cases_lt i x) [
          | inl before ↦ step.accept_stays i (λ j is. elim is [ inl s ↦ let e = s.0 in omega arith | inr none ↦ none ]) ∙ opened.accepts i before
          | inr last ↦ let same : x ≡ i = omega arith in subst (λ v. accept_of after v 0 ≡ 1) same (step.accepted x 0 (inl (refl, refl)) ∙ mod-eq_of_lt ports)
        ];
      } in
      let later = opens k (x + 1) (t + 1) after (omega arith) next in (
        leads_before n (decided_in rounds n) t places (ends x) (openings (x + 1) k rest) rest
            (record { serving = step.serving (settles_ends x); follows = follows_openings x k rest (omega arith) }) later.0,
        later.1,
        ap suc {x = later.0.count} later.2,
      )

  -- all pointers are at port 0 at first
  IsOpened-at_first : n ≤ MAX_PORTS → IsOpened n (places_at_first n) 0
  unfolding places_at_first
  IsOpened-at_first size = record {
    switch = record { at_ports = AreAtPorts-at_first n (omega arith) size; ports = refl };
    grant = place_of-at_first 0 0 ∙ sym (mod-eq_of_lt (omega arith));
    others = λ y yes. place_of-at_first 0 y;
    accepts = λ i below. absurd (omega arith);
  }

  -- what is late from where the openings lead comes in a schedule at line rate, from all pointers at port 0 on
  late_comes : n ≤ MAX_PORTS → ((t : ℕ) (places : Places) → IsBeginning n places → IsLateIn rounds n t places rest)
      → (slots : List DecidedSlot) × AreFedAtLineRate n slots × ComesLastAtLineRate n rounds (suc n) slots × (length (drop (suc n) slots) ≡ length rest)
  late_comes size lates =
      let from = places_at_first n in
      let rule = decided_in rounds n in
      let opened = IsOpened-at_first size in
      let found = opens n 0 0 from (omega arith) opened in
      let leads = found.0 in
      let begins : IsBeginning n leads.after = found.1 in
      let count = leads.count in
      let after = leads.after in
      let ps = openings 0 n rest in
      let slots = run n rule 0 from ps in
      let late = lates count after begins in
      let dropped : drop count slots ≡ run n rule count after rest = led n rule from ps rest leads in
      let all = kept_all n rule from ps rest leads late.run_kept in
      let served : IsServedLast n rounds count 0 0 0 after (run n rule count after rest) =
      IsServedLast-run rounds n count after rest begins.base.switch late in
      subst
      (λ c. (slots : List DecidedSlot) × AreFedAtLineRate n slots × ComesLastAtLineRate n rounds c slots × (length (drop c slots) ≡ length rest)) found.2 (
        slots,
        fed_at_line_rate n ps slots (all.fed nothing (starts_first n rest ports)),
        record {
          comes = record {
            schedule = IsSchedule-run rounds n 0 from ps opened.switch;
            within = All-run n rule 0 from (AreWithin n) (AreWithin-rows n) ps;
            kept = all.kept;
            last = subst (λ f. IsServedLast n rounds count 0 0 0 f (drop count slots)) (sym leads.left)
                (subst (λ s. IsServedLast n rounds count 0 0 0 after s) (sym dropped) served);
          };
          line_rate = all.line;
          opens = opens_run n rule 0 from ps (starts_openings 0 n rest);
        },
        ap length dropped ∙ length-run n rule count after rest,
      )

-- the window is reached at line rate
abbrev Reached : ℕ → ℕ → Type 0
Reached rounds n = (slots : List DecidedSlot) × AreFedAtLineRate n slots × ComesLastAtLineRate n rounds (n + 1) slots
    × (length (drop (n + 1) slots) + 1 ≡ longest_service n)

-- so many slots from slot `count` on, which is slot n + 1
counted : (rounds n count : ℕ) (rest : List Plan) → length rest + 1 ≡ longest_service n → count ≡ n + 1
    → (slots : List DecidedSlot) × AreFedAtLineRate n slots × ComesLastAtLineRate n rounds count slots × (length (drop count slots) ≡ length rest)
    → Reached rounds n
counted rounds n count rest long e all =
    subst
    (λ m. (slots : List DecidedSlot) × AreFedAtLineRate n slots × ComesLastAtLineRate n rounds m slots × (length (drop m slots) + 1 ≡ longest_service n)) e
    (all.0, all.1, all.2, ap (λ v. v + 1) all.3 ∙ long)

-- so many slots are those of four ports or more
length-four_on : (l : ℕ) → 2 < l → length (four_on l) ≡ l + length (body l)
length-four_on l high = let all = length-boths l (l - 3) 3 (crosses_by l l ∷ body l) in omega arith

-- four ports or more
four_on_comes : (rounds n : ℕ) → 1 < rounds → 3 < n → n ≤ MAX_PORTS → Reached rounds n
four_on_comes rounds n two high size =
    let l = n - 1 in
    let sum : l + 1 ≡ n = omega arith in
    let long : length (four_on l) + 1 ≡ longest_service n =
    ap (λ v. v + 1) (length-four_on l (omega arith)) ∙ length-all l (omega arith) ∙ ap longest_service sum in
    counted rounds n (suc n) (four_on l) long (omega arith)
    (late_comes rounds n two (omega arith) (four_on l) again_takes size (λ t places begins. late_four_on rounds n l two sum (omega arith) t places begins))

-- three ports
three_comes : (rounds : ℕ) → 1 < rounds → Reached rounds 3
three_comes rounds two =
    counted rounds 3 4 three refl refl
    (late_comes rounds 3 two (omega arith) three (again_wins 1 2 (omega arith)) (omega arith)
    (λ t places begins. late_three rounds t places two begins.base begins.at (begins.others 1 (omega arith))))

-- for three ports or more
pub more_come_at_line_rate : (n rounds : ℕ) → 2 < n → n ≤ MAX_PORTS → 1 < rounds → Reached rounds n
more_come_at_line_rate n rounds high size two = elim (cases_lt 3 n) [
  | inl more ↦ four_on_comes rounds n two more size
  | inr few ↦ let e : 3 ≡ n = omega arith in subst (Reached rounds) e (three_comes rounds two)
]
