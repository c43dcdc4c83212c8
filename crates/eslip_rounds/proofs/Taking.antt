-- The inputs take what they are offered, one after another.
use Rattle.std.proofs.Common.{◌≡◌, ℕ, ◌<◌, ◌↔◌, ◌⊎◌, ◌∙◌, List, Option, None, Some, length, refl, sym, subst, inl, inr, slice_index}
use Rattle.std.proofs.lemmas.Bool.{cases_eq}
use Rattle.std.proofs.lemmas.Option.{none-some}
use Rattle.rotating_pick.specs.PortSets.{Has}
use Rattle.rotating_pick.specs.declared.kinds.Kind.{Kind}
use Rattle.rotating_pick.specs.declared.kinds.Kind.TheVariants.{Uni, Multi}
use Rattle.rotating_pick.specs.declared.limits.TheConstants.{LEVELS}
use Rattle.rotating_pick.proofs.First.{IsFirstFrom-only}
use Rattle.rotating_pick.proofs.Picking.{IsFirstFrom-some}
use Rattle.slot_match.specs.declared.matching.Fed.{Fed}
use Rattle.slot_match.specs.Matches.{fed_of, Serves, IsFreeOutput, IsMatch, MayAdd}
use Rattle.slot_match.proofs.Sets.{Has-or}
use Rattle.slot_match.proofs.Pairs.{Serves-from}
use Rattle.slot_match.proofs.Adding.{IsAdded, Serves-added}
use Rattle.pointer_state.specs.Places.{Places, accept_of}
use Rattle.eslip_rounds.specs.declared.grants.Offers.{Offers}
use Rattle.eslip_rounds.specs.RankSteps.{level_at, kind_at}
use Rattle.eslip_rounds.specs.Rounds.{Takes}
use Rattle.eslip_rounds.specs.Steps.{MayAsk, IsOpen, AreOpen, IsTaken}
use Rattle.eslip_rounds.proofs.Bests.{taken_from}

-- an output that nobody feeds is free
pub free_from_nobody : (matched : List (Option Fed)) (j : ℕ) → ((i level : ℕ) (kind : Kind) → Serves matched i j level kind → ⊥) → IsFreeOutput matched j
free_from_nobody matched j none = go (fed_of matched j) refl where
  go : (o : Option Fed) → fed_of matched j ≡ o → fed_of matched j ≡ None
  go None e = e
  go (Some f) e = absurd (none f.input f.level f.kind (Serves-from matched j f e))

-- of some offers something is taken
takes_some : (kind : Kind) (n from offered j : ℕ) → from < n → j < n → Has offered j → (z : ℕ) × Takes kind n from (Has offered) z
takes_some Uni n from offered j from_in j_in has = IsFirstFrom-some n from (Has offered) (Has-or offered) from_in j j_in has
takes_some Multi n from offered j from_in j_in has = (j, has)

module _ (n : ℕ) (first_kind : Kind) (places : Places) (offers : Offers) (i : ℕ) (old : List (Option Fed)) (whole : IsMatch n old)
    (opens : IsOpen n first_kind old offers i) (level from taken : ℕ) (kind : Kind) (level_is : level ≡ level_at (slice_index offers.ranks i))
    (kind_is : kind ≡ kind_at first_kind (slice_index offers.ranks i)) (from_is : from ≡ accept_of places i level) (from_in : from < n)
    (takes : (j : ℕ) → Has taken j ↔ Takes kind n from (Has (slice_index offers.outputs i)) j) where
  offered : (j : ℕ) → Has taken j → Has (slice_index offers.outputs i) j
  offered j has = taken_from kind n from (Has (slice_index offers.outputs i)) j ((takes j).0 has)

  ready_here : MayAsk old level kind i
  ready_here =
      let P : ℕ → Type 0 = λ l. MayAsk old l (kind_at first_kind (slice_index offers.ranks i)) i in
      let Q : Kind → Type 0 = λ k. MayAsk old level k i in
      subst Q (sym kind_is) (subst P (sym level_is) opens.ready)

  pub MayAdd-taken : MayAdd n old i taken level kind
  MayAdd-taken =
      let there = opens.some in
      let some = takes_some kind n from (slice_index offers.outputs i) there.0 from_in (opens.free there.0 there.1).0 there.1 in
      record {
        some = (some.0, (takes some.0).1 some.1);
        free = λ j has. opens.free j (offered j has);
        one = λ uni j k a b.
            let T : ℕ → Kind → Type 0 = λ y q. Takes q n from (Has (slice_index offers.outputs i)) y in
            IsFirstFrom-only n from (Has (slice_index offers.outputs i)) j k from_in (subst (T j) uni ((takes j).0 a)) (subst (T k) uni ((takes k).0 b));
        ready = ready_here;
      }

  pub pairs-taken : (new : List (Option Fed)) → Has offers.granted i → level < LEVELS → length new ≡ length old
      → ((j : ℕ) → Has taken j → Serves new i j level kind) → ((j : ℕ) → (Has taken j → ⊥) → fed_of new j ≡ fed_of old j) → (x j l : ℕ) (k : Kind)
      → Serves new x j l k ↔ (Serves old x j l k ⊎ ((x ≡ i) × IsTaken n first_kind places offers i j l k))
  pairs-taken new granted level_in count fed stays x j l k =
      let added : IsAdded old new i taken level kind = record { count = count; fed = fed; stays = stays } in
      let step = Serves-added n old new i taken level kind whole MayAdd-taken opens.input_in level_in added x j l k in
      let T : ℕ → Type 0 = λ f. Takes kind n f (Has (slice_index offers.outputs i)) j in (
        λ s. elim (step.0 s) [
          | inl before ↦ inl before
          | inr p ↦
              let here : IsTaken n first_kind places offers i j level kind =
              record { granted = granted; level_is = level_is; kind_is = kind_is; taken = subst T from_is ((takes j).0 p.1) } in
              let P : ℕ → Type 0 = λ m. IsTaken n first_kind places offers i j m kind in
              let Q : Kind → Type 0 = λ q. IsTaken n first_kind places offers i j l q in
              inr (p.0, subst Q (sym p.3) (subst P (sym p.2) here))
        ],
        λ s. step.1 (elim s [
          | inl before ↦ inl before
          | inr p ↦
              let t = p.1 in
              let l_is : l ≡ level = t.level_is ∙ sym level_is in
              let k_is : k ≡ kind = t.kind_is ∙ sym kind_is in
              let P : ℕ → Type 0 = λ m. Takes k n (accept_of places i m) (Has (slice_index offers.outputs i)) j in
              let Q : Kind → Type 0 = λ q. Takes q n (accept_of places i level) (Has (slice_index offers.outputs i)) j in
              inr (p.0, (takes j).1 (subst T (sym from_is) (subst Q k_is (subst P l_is t.taken))), l_is, k_is)
        ]),
      )

module _ (n : ℕ) (first_kind : Kind) (places : Places) (offers : Offers) (old now : List (Option Fed)) (rest : ℕ) (opens : AreOpen n first_kind old offers)
    (pairs : (x j l : ℕ) (k : Kind) → Serves now x j l k ↔ (Serves old x j l k ⊎ ((Has rest x → ⊥) × IsTaken n first_kind places offers x j l k))) where
  -- what an input that waits was matched with before, it is matched with now
  back : (i j l : ℕ) (k : Kind) → Has rest i → Serves now i j l k → Serves old i j l k
  back i j l k has s = elim ((pairs i j l k).0 s) [ inl before ↦ before | inr p ↦ absurd (p.0 has) ]

  -- what an input that waits is offered may still be taken
  pub IsOpen-waiting : (i : ℕ) → Has rest i → Has offers.granted i → IsOpen n first_kind now offers i
  IsOpen-waiting i has granted =
      let o = opens.each i granted in
      record {
        input_in = o.input_in;
        rank_in = o.rank_in;
        some = o.some;
        free = λ j h.
            let f = o.free j h in (
              f.0,
              free_from_nobody now j (λ x l k s. elim ((pairs x j l k).0 s) [
                | inl before ↦ none-some (record { input = x; level = l; kind = k }) (sym f.1 ∙ before)
                | inr p ↦
                    let theirs = taken_from k n (accept_of places x l) (Has (slice_index offers.outputs x)) j p.1.taken in
                    let same : x ≡ i = opens.apart x i j p.1.granted granted theirs h in
                    p.0 (subst (Has rest) (sym same) has)
              ]),
            );
        ready = elim o.ready [
          | inl free ↦ inl (λ j l k s. free j l k (back i j l k has s))
          | inr on ↦ inr (
            on.0,
            record {
              some = (on.1.some.0, (pairs i on.1.some.0 _ Multi).1 (inl on.1.some.1));
              only = λ j l k s. on.1.only j l k (back i j l k has s);
            },
          )
        ];
      }

  -- one input more has taken
  pub pairs-more : (i later : ℕ) (after : List (Option Fed)) → Has rest i → ((x : ℕ) → Has later x ↔ ((x ≡ i → ⊥) × Has rest x))
      → ((x j l : ℕ) (k : Kind) → Serves after x j l k ↔ (Serves now x j l k ⊎ ((x ≡ i) × IsTaken n first_kind places offers i j l k)))
      → (x j l : ℕ) (k : Kind) → Serves after x j l k ↔ (Serves old x j l k ⊎ ((Has later x → ⊥) × IsTaken n first_kind places offers x j l k))
  pairs-more i later after has fewer step x j l k =
      let P : ℕ → Type 0 = λ y. IsTaken n first_kind places offers y j l k in (
        λ s. elim ((step x j l k).0 s) [
          | inl before ↦ elim ((pairs x j l k).0 before) [ inl o ↦ inl o | inr p ↦ inr (λ h. p.0 ((fewer x).0 h).1, p.1) ]
          | inr p ↦ inr (λ h. ((fewer x).0 h).0 p.0, subst P (sym p.0) p.1)
        ],
        λ s. (step x j l k).1 (elim s [
          | inl o ↦ inl ((pairs x j l k).1 (inl o))
          | inr p ↦ elim (cases_eq x i) [
            | inl same ↦ inr (same, subst P same p.1)
            | inr apart ↦ inl ((pairs x j l k).1 (inr (λ h. p.0 ((fewer x).1 (apart, h)), p.1)))
          ]
        ]),
      )
