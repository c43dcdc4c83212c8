-- A slot that is decided is noted as the run's, and its posts change nothing else.
use Rattle.std.proofs.Common.{◌≡◌, ◌∙◌, ℕ, ◌++◌, List, map, take, drop, length, Option, sym, ap, subst}
use Rattle.std.specs.List.{range_with_len}
use Rattle.std.specs.Vec.{with_items}
use Rattle.std.proofs.lemmas.List.FromFn.{length-map-range_with_len}
use Rattle.std_lemmas.proofs.Lists.{whole_back}
use Rattle.slot_match.specs.declared.matching.Fed.{Fed}
use Rattle.slot_match.specs.Parts.{served_of}
use Rattle.crossbar.specs.declared.cards.Post.{Post}
use Rattle.eslip_rounds.specs.Schedulers.{Scheduler, IsScheduler}
use Rattle.card_core.specs.Posts.{IsServable}
use Rattle.switch_plan.specs.GoodPlans.{SwitchPlan, IsGood}
use Rattle.run_laws.specs.Runs.{ports_of, posts_under}
use Rattle.run_laws.proofs.Base.{requested}
use Rattle.run_sinks.specs.NotedSlots.{IsRunSlot}
use Rattle.descriptor_runs.specs.declared.switch.Switch.{Switch}
use Rattle.descriptor_runs.specs.SwitchSteps.{IsDecided}

module _ (scheduler : Scheduler) (scheduling : IsScheduler scheduler) (plan : SwitchPlan) (good : IsGood plan) (t : ℕ) (switch : Switch)
    (is : IsDecided scheduler plan t switch) (posts : List Post)
    (posts_are : posts ≡ map (λ i. posts_under scheduler plan i t) (range_with_len 0 (ports_of plan))) where
  count : length posts ≡ ports_of plan
  count = ap length posts_are ∙ length-map-range_with_len (λ i. posts_under scheduler plan i t) 0 (ports_of plan)

  pub posts-back : take switch.posts.len (posts ++ drop (length posts) switch.posts.items) ≡ posts
  posts-back = whole_back switch.posts.len posts switch.posts.items switch.posts.ok.0 (count ∙ sym is.switch_is.posts)

  pub is-run_slot : (again : List Post) → again ≡ posts → IsRunSlot scheduler plan t again switch.matched switch.numbers
  is-run_slot again same = record {
    slot = record {
      posts_are = same ∙ posts_are;
      matched_is = is.matched;
      servable = λ i inside. subst (λ (m : List (Option Fed)). IsServable (posts_under scheduler plan i t).row (served_of m i)) (sym is.matched)
          (requested scheduler scheduling plan good i t inside);
    };
    numbers_are = is.numbers;
  }

  pub with-posts : IsDecided scheduler plan t (record switch { posts = with_items switch.posts posts })
  with-posts =
      let was = is.switch_is in
      record {
        switch_is = record {
          decides = was.decides;
          rounds = was.rounds;
          nano = was.nano;
          pointers = was.pointers;
          matched = was.matched;
          posts = ap length posts-back ∙ count;
          meter_ports = was.meter_ports;
          meter_count = was.meter_count;
          noted = was.noted;
        };
        inputs = is.inputs;
        names = is.names;
        outputs = is.outputs;
        matched = is.matched;
        numbers = is.numbers;
        parts = is.parts;
      }
