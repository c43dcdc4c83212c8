-- Runs of plans: the slots that some plans make one after the other, where `rule` tells what each decides, and what each
-- leaves to the next.
use Rattle.std.proofs.Common.{◌≡◌, ℕ, suc, Option, ◌+◌, ◌<◌, ◌∙◌, List, [], ◌∷◌, length, take, drop, All, refl, ap, sym, subst, inl, inr, arith}
use Rattle.std.proofs.lemmas.List.Elements.{All-nil, All-cons}
use Rattle.rotating_pick.specs.declared.kinds.Kind.TheVariants.{Uni, Multi}
use Rattle.slot_match.specs.declared.rows.Row.{Row}
use Rattle.slot_match.specs.Rows.{Names, row_of}
use Rattle.slot_match.specs.declared.matching.Fed.{Fed}
use Rattle.slot_match.specs.Matches.{Serves}
use Rattle.slot_match.specs.Keeping.{Keeps}
use Rattle.pointer_state.specs.Places.{Places, places_at_first}
use Rattle.eslip_rounds.specs.Slots.{Decision}
use Rattle.eslip_rounds.specs.Schedules.{DecidedSlot}
use Rattle.service_bound.specs.Windows.{AreKept, GainAtMostOne, AreAtLineRate, InFirst, places_after}
use Rattle.service_bound.specs.Latest.{ServeLast}
use Rattle.service_bound.proofs.PostedRuns.{IsSwitch}
use Rattle.scheduler_laws.specs.Reached.{AskAtMostOne}
use Rattle.scheduler_laws.proofs.Plans.{In, IsServing, IsServingOthers, Each, each, Plan, asked, rows_of, posted, names}
use Rattle.scheduler_laws.proofs.NextPlans.{IsOn, IsGained, IsApart, AreApart, Follows, Starts}
use Rattle.scheduler_laws.proofs.Shapes.{nothing}
use Rattle.scheduler_laws.proofs.FedRuns.{IsFedRun, IsFedRun-before}

-- ---- one slot and the next
-- the next row keeps the one before
keeps_on : (n : ℕ) (matched : List (Option Fed)) (p next : Plan) → IsServing p matched → Follows p next → (i : ℕ) → i < n
    → Keeps matched i (row_of (rows_of n p) i) (row_of (rows_of n next) i)
keeps_on n matched p next serving follows i i_in = record {
  uni = λ level j named left.
      let is = posted n p i j level Uni i_in named in
      elim (each (IsOn p next) (asked p) follows.kept i j is.3) [
        | inl served ↦ absurd (left (subst (λ l. Serves matched i j l Uni) (sym is.0) (serving.serves i j served)))
        | inr again ↦ subst (λ l. Names (row_of (rows_of n next) i) l Uni j) (sym is.0) (names n next i j i_in is.2 again)
      ];
  multi = λ level j named left. let kind = (posted n p i j level Multi i_in named).1 in absurd (cc);
}

-- each input begins to ask for one output at most
gains_on : (n : ℕ) (p next : Plan) → Follows p next → GainAtMostOne n 0 (rows_of n p) (rows_of n next)
gains_on n p next follows i i_in j k named also new too =
    let a = posted n next i j 0 Uni i_in named in
    let b = posted n next i k 0 Uni i_in also in
    elim (each (IsGained p follows.gains) (asked next) follows.gained i j a.3) [
      | inl old ↦ absurd (new (names n p i j i_in a.2 old.0))
      | inr first ↦ elim (each (IsGained p follows.gains) (asked next) follows.gained i k b.3) [
        | inl old ↦ absurd (too (names n p i k i_in b.2 old.0))
        | inr second ↦ each (IsApart i j) follows.gains (each (AreApart follows.gains) follows.gains follows.apart i j first) i k second refl
      ]
    ]

-- a plan in which no input asks for two outputs
asks_one : (n : ℕ) (p : Plan) → Each (AreApart (asked p)) (asked p) → AskAtMostOne n 0 (rows_of n p)
asks_one n p apart i j k i_in named also =
    let a = posted n p i j 0 Uni i_in named in
    let b = posted n p i k 0 Uni i_in also in
    each (IsApart i j) (asked p) (each (AreApart (asked p)) (asked p) apart i j a.3) i k b.3 refl

-- in the plan no input asks for two outputs
abbrev pub IsOneEach : Plan → Type 0
IsOneEach p = Each (AreApart (asked p)) (asked p)

-- ---- the slots of some plans
-- what a slot of a plan decides from the pointers before it
abbrev pub Rule : Type 0
Rule = ℕ → Places → Plan → Decision

-- the slots of some plans
abbrev pub run : ℕ → Rule → ℕ → Places → List Plan → List DecidedSlot
run n rule t places [] = []
run n rule t places (p ∷ ps) = record { rows = rows_of n p; decision = rule t places p } ∷ run n rule (t + 1) (rule t places p).places ps

-- as many as the plans
pub length-run : (n : ℕ) (rule : Rule) (t : ℕ) (places : Places) (ps : List Plan) → length (run n rule t places ps) ≡ length ps
length-run n rule t places [] = refl
length-run n rule t places (p ∷ ps) = ap suc (length-run n rule (t + 1) (rule t places p).places ps)

-- what all rows of plans have, all slots have
pub All-run : (n : ℕ) (rule : Rule) (t : ℕ) (places : Places) (P : List Row → Type 0) → ((p : Plan) → P (rows_of n p)) → (ps : List Plan)
    → All (λ slot. P slot.rows) (run n rule t places ps)
All-run n rule t places P all [] = All-nil (λ slot. P slot.rows)
All-run n rule t places P all (p ∷ ps) =
    All-cons (λ slot. P slot.rows) (record { rows = rows_of n p; decision = rule t places p }) (run n rule (t + 1) (rule t places p).places ps) (all p)
    (All-run n rule (t + 1) (rule t places p).places P all ps)

-- requests stay in the run, which is at line rate
pub record IsKeptRun (n : ℕ) (rule : Rule) (t : ℕ) (places : Places) (ps : List Plan) : Type 0 where
  pub kept : AreKept n (run n rule t places ps)
  pub line : AreAtLineRate n 0 (run n rule t places ps)
  -- and whatever comes before it, cells that come at line rate feed it
  pub fed : (before : Plan) → Starts (Follows before) ps → IsFedRun n before ps (run n rule t places ps)

-- there are no slots
IsKeptRun-none : (n : ℕ) (rule : Rule) (t : ℕ) (places : Places) → IsKeptRun n rule t places []
IsKeptRun-none n rule t places = record { kept = tt; line = tt; fed = λ before none. tt }

-- one slot more in front
pub IsKeptRun-before : (n : ℕ) (rule : Rule) (t : ℕ) (places : Places) (p : Plan) (ps : List Plan) → IsServing p (rule t places p).matched
    → Starts (Follows p) ps → IsKeptRun n rule (t + 1) (rule t places p).places ps → IsKeptRun n rule t places (p ∷ ps)
IsKeptRun-before n rule t places p ps serving follows run_kept = record {
  kept = kept ps follows run_kept;
  line = line ps follows run_kept;
  fed = λ before first. IsFedRun-before n before p ps (rule t places p) (run n rule (t + 1) (rule t places p).places ps) first serving
      (run_kept.fed p follows);
} where
  kept : (ps : List Plan) → Starts (Follows p) ps → IsKeptRun n rule (t + 1) (rule t places p).places ps → AreKept n (run n rule t places (p ∷ ps))
  kept [] follows run_kept = (tt, tt)
  kept (next ∷ ps) follows run_kept = (keeps_on n (rule t places p).matched p next serving follows, run_kept.kept)

  line : (ps : List Plan) → Starts (Follows p) ps → IsKeptRun n rule (t + 1) (rule t places p).places ps → AreAtLineRate n 0 (run n rule t places (p ∷ ps))
  line [] follows run_kept = (tt, tt)
  line (next ∷ ps) follows run_kept = (gains_on n p next follows, run_kept.line)

-- and queue (0, 0) is served in its last slot alone
pub record IsLateBy (n : ℕ) (rule : Rule) (t : ℕ) (places : Places) (ps : List Plan) : Type 0 where
  pub run_kept : IsKeptRun n rule t places ps
  pub last : ServeLast 0 0 0 (run n rule t places ps)

-- one slot more in front, which does not serve the queue
pub IsLateBy-before : (n : ℕ) (rule : Rule) (t : ℕ) (places : Places) (p : Plan) (ps : List Plan) → Starts (Follows p) ps
    → IsServingOthers p (rule t places p).matched → IsLateBy n rule (t + 1) (rule t places p).places ps → IsLateBy n rule t places (p ∷ ps)
IsLateBy-before n rule t places p [] follows others late = absurd late.last
IsLateBy-before n rule t places p (next ∷ ps) follows others late =
    record { run_kept = IsKeptRun-before n rule t places p (next ∷ ps) others.serving follows late.run_kept; last = (others.left, late.last) }

-- the last slot, which serves it
pub IsLateBy-last : (n : ℕ) (rule : Rule) (t : ℕ) (places : Places) (p : Plan) → IsServing p (rule t places p).matched → In 0 0 p.serves
    → IsLateBy n rule t places (p ∷ [])
IsLateBy-last n rule t places p serving served =
    record {
      run_kept = IsKeptRun-before n rule t places p [] serving tt (IsKeptRun-none n rule (t + 1) (rule t places p).places);
      last = serving.serves 0 0 served;
    }

-- in the first slot each input asks for one output at most, where its plan says so
pub opens_run : (n : ℕ) (rule : Rule) (t : ℕ) (places : Places) (ps : List Plan) → Starts IsOneEach ps → InFirst (AskAtMostOne n 0) (run n rule t places ps)
opens_run n rule t places [] one = tt
opens_run n rule t places (p ∷ ps) one = asks_one n p one

-- ---- the first slots of a run
-- The slots of `rest`, from the pointers `after` on, follow on the first `count` slots of the run.
pub record Leads (n : ℕ) (rule : Rule) (t : ℕ) (places : Places) (ps rest : List Plan) : Type 0 where
  pub count : ℕ
  pub after : Places
  pub slots : drop count (run n rule t places ps) ≡ run n rule (t + count) after rest
  pub left : places_after places (take count (run n rule t places ps)) ≡ after
  pub keeping : IsKeptRun n rule (t + count) after rest → IsKeptRun n rule t places ps

-- no slot leads to the run itself
abbrev pub leads_none : (n : ℕ) (rule : Rule) (t : ℕ) (places : Places) (ps : List Plan) → Leads n rule t places ps ps
leads_none n rule t places ps = record {
  count = 0;
  after = places;
  slots = ap (λ s. run n rule s places ps) (let same : t ≡ t + 0 = omega arith in same);
  left = refl;
  keeping = λ kept. let same : t + 0 ≡ t = omega arith in subst (λ s. IsKeptRun n rule s places ps) same kept;
}

-- the match serves the pairs of the plan, on which the next one follows
pub record IsFollowed (p : Plan) (ps : List Plan) (matched : List (Option Fed)) : Type 0 where
  pub serving : IsServing p matched
  pub follows : Starts (Follows p) ps

-- one slot more in front
abbrev pub leads_before : (n : ℕ) (rule : Rule) (t : ℕ) (places : Places) (p : Plan) (ps rest : List Plan) → IsFollowed p ps (rule t places p).matched
    → Leads n rule (t + 1) (rule t places p).places ps rest → Leads n rule t places (p ∷ ps) rest
leads_before n rule t places p ps rest followed leads = record {
  count = suc leads.count;
  after = leads.after;
  slots = leads.slots ∙ ap (λ s. run n rule s leads.after rest) (let same : t + 1 + leads.count ≡ t + suc leads.count = omega arith in same);
  left = leads.left;
  keeping = λ kept.
      let same : t + suc leads.count ≡ t + 1 + leads.count = omega arith in
      IsKeptRun-before n rule t places p ps followed.serving followed.follows (leads.keeping (subst (λ s. IsKeptRun n rule s leads.after rest) same kept));
}

-- the slots from slot `count` on, where the run begins with slot 0
pub led : (n : ℕ) (rule : Rule) (from : Places) (ps rest : List Plan) (leads : Leads n rule 0 from ps rest)
    → drop leads.count (run n rule 0 from ps) ≡ run n rule leads.count leads.after rest
led n rule from ps rest leads =
    let same : 0 + leads.count ≡ leads.count = omega arith in leads.slots ∙ ap (λ s. run n rule s leads.after rest) same

-- requests stay in all of the run, which is at line rate
pub kept_all : (n : ℕ) (rule : Rule) (from : Places) (ps rest : List Plan) (leads : Leads n rule 0 from ps rest)
    → IsKeptRun n rule leads.count leads.after rest → IsKeptRun n rule 0 from ps
kept_all n rule from ps rest leads kept =
    let same : leads.count ≡ 0 + leads.count = omega arith in leads.keeping (subst (λ s. IsKeptRun n rule s leads.after rest) same kept)

-- Plans before which nothing waits open a run from all pointers at port 0, and lead to pointers of a switch.
pub record IsOpening (n : ℕ) (rule : Rule) (ps rest : List Plan) : Type 0 where
  pub switch : IsSwitch n (places_at_first n)
  pub one : Starts IsOneEach ps
  pub first : Starts (Follows nothing) ps
  pub leads : Leads n rule 0 (places_at_first n) ps rest
  pub later : IsSwitch n leads.after
