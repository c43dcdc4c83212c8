-- Calls that are made one after another, each with what it gave.
use Rattle.std.proofs.Common.{◌≡◌, ◌∙◌, ℕ, ◌<◌, List, [], ◌∷◌, ◌++◌, length, slice_index_or, ap, sym, subst, arith, inl, inr}
use Rattle.std.proofs.lemmas.Bool.{cases_lt}
use Rattle.std.proofs.lemmas.List.{get_or_at, get_or_append_left, get_or_push, length_push}
use Rattle.std.specs.Fork.{GivesJob}
use Rattle.std.specs.Fn.{FnReturns}
use denote.Param.Members.{Shared}

-- there is an answer to each of the calls that were done, and each is what the call of its job gave
pub record AreGiven {F J R : Type 0} (g : Shared F (J × Unit {0}) R) (f : F) (jobs : List J) (done : ℕ) (answers : List R) : Type 0 where
  pub long : length answers ≡ done
  pub given : (i : ℕ) (d : R) → i < done → GivesJob g f jobs i (slice_index_or answers i d)

module _ {F J R : Type 0} (g : Shared F (J × Unit {0}) R) (f : F) where
  -- after one more call this is still so
  pub given_next : (jobs done rest : List J) (job : J) (answers : List R) (answer : R) → done ++ job ∷ rest ≡ jobs
      → AreGiven g f jobs (length done) answers → FnReturns g f (job, tt) answer → AreGiven g f jobs (length (done ++ job ∷ [])) (answers ++ answer ∷ [])
  given_next jobs done rest job answers answer whole before gave = record {
    long = omega (arith, before.long, length_push answers answer, length_push done job);
    given = λ i d inside. elim (cases_lt i (length done)) [
      | inl earlier ↦
          let same = get_or_append_left answers (answer ∷ []) d i (let long = before.long in omega arith) in
          subst (GivesJob g f jobs i) (sym same) (before.given i d earlier)
      | inr late ↦
          let last : length done ≡ i = omega (arith, length_push done job) in
          let here = get_or_push answers answer d i (before.long ∙ last) in
          let there = λ (e : J). sym (ap (λ xs. slice_index_or xs i e) whole) ∙ get_or_at done job rest e i last in
          record {
            job = job;
            job_read = sym (there job);
            job_is = there;
            call = subst (FnReturns g f (job, tt)) (sym here) gave;
          }
    ];
  }
