-- The files that a run reads, one after the other.
use Rattle.std.proofs.Common.{◌≡◌, ◌<◌, ◌≤◌, ◌+◌, ◌^◌, ℕ, Bool, List, [], ◌∷◌, ◌++◌, map, take, length, get_or, Option, Some, None, sym, ◌∙◌, ap, arith}
use Rattle.std.specs.Prelude.{IfSome, Result, Vec, is_ok, true, false, if◌then◌else◌}
use Rattle.std.proofs.lemmas.List.{length_push, map_more, map_push, take_more}
use Rattle.std.proofs.lemmas.List.Elements.{All-more, All-push}
use Rattle.outside.specs.Contents.{Contents, Stays}
use Rattle.outside.specs.WholeFiles.{Fits}
use Rattle.outside.proofs.Staying.{IfSome-Stays}
use Rattle.switch_words.specs.Limits.{IsUpTo}
use Rattle.job_files.specs.Inputs.{AreFilesRead, CapturesRead, EarlierFit}
use Rattle.job_files.specs.FileSteps.{AreOfSize}
use Rattle.rotating_pick.specs.declared.limits.TheConstants.{MAX_PORTS}
use Rattle.switch_plan.specs.ReadingSteps.{bytes_of_files}
use Rattle.job_files.specs.Jobs.{ReadWords, capture_bytes}
use Rattle.job_files.specs.declared.inputs.InputFile.TheVariants.{Capture}

-- what was read is there for as long as what is seen stays
pub CapturesRead-Stays : (long : Bool) (names : List (List ℕ)) (old new : Option Contents) (captures : List (List ℕ)) → Stays old new
    → CapturesRead long names old captures → CapturesRead long names new captures
CapturesRead-Stays long names old new captures stays read = record {
  count = read.count;
  fit = read.fit;
  there = IfSome-Stays old new (λ c. map (λ name. c.file name) names ≡ map (λ bytes. Some bytes) captures) stays read.there;
}

-- one file more is there
pub earlier_more : (r : ReadWords) (seen : Option Contents) (port : ℕ) (bytes : List ℕ) → port < length r.inputs → IfSome seen (EarlierFit r (Capture port))
    → IfSome seen (λ c. c.file (get_or r.inputs port []) ≡ Some bytes) → length bytes ≤ capture_bytes r.long → IfSome seen (EarlierFit r (Capture (port + 1)))
earlier_more r None port bytes within earlier there fits = tt
earlier_more r (Some c) port bytes within earlier there fits =
    (earlier.0, All-more (Fits (capture_bytes r.long) c) r.inputs port [] within earlier.1 (bytes, there, fits))

there_more : (names : List (List ℕ)) (seen : Option Contents) (i : ℕ) (captures : List (List ℕ)) (bytes : List ℕ) → i < length names
    → IfSome seen (λ c. map (λ name. c.file name) (take i names) ≡ map (λ b. Some b) captures) → IfSome seen (λ c. c.file (get_or names i []) ≡ Some bytes)
    → IfSome seen (λ c. map (λ name. c.file name) (take (i + 1) names) ≡ map (λ b. Some b) (captures ++ bytes ∷ []))
there_more names None i captures bytes within there here = tt
there_more names (Some c) i captures bytes within there here =
    map_more (λ name. c.file name) names i [] within
    ∙ ap (λ xs. xs ++ c.file (get_or names i []) ∷ []) there
    ∙ ap (λ o. map (λ b. Some b) captures ++ o ∷ []) here
    ∙ sym (map_push (λ b. Some b) captures bytes)

-- one capture more is read
pub captures_more : (r : ReadWords) (seen : Option Contents) (i : ℕ) (captures : List (List ℕ)) (bytes : List ℕ) → i < length r.inputs
    → CapturesRead r.long (take i r.inputs) seen captures
    → IfSome seen (λ c. c.file (get_or r.inputs i []) ≡ Some bytes) → length bytes ≤ capture_bytes r.long
    → CapturesRead r.long (take (i + 1) r.inputs) seen (captures ++ bytes ∷ [])
captures_more r seen i captures bytes within read here fits = record {
  count = length_push captures bytes ∙ ap (λ n. n + 1) read.count
      ∙ sym (ap length (take_more r.inputs i [] within) ∙ length_push (take i r.inputs) (get_or r.inputs i []));
  fit = All-push (λ b. length b ≤ capture_bytes r.long) captures bytes read.fit fits;
  there = there_more r.inputs seen i captures bytes within read.there here;
}

-- what a push left, where it was not refused
pub bytes_pushed : {A B T E : Type 0} (r : Result T E) (new old : Vec (Vec ℕ A) B) (capture : Vec ℕ A)
    → new.items ≡ (if is_ok r then old.items ++ capture ∷ [] else old.items) → is_ok r ≡ true
    → bytes_of_files new ≡ bytes_of_files old ++ capture.items ∷ []
bytes_pushed r new old capture e ok = ap (map (λ v. v.items)) (rw ok at e) ∙ map_push (λ v. v.items) old.items capture

-- 32 bits count the bytes of a capture
counted : (long : Bool) (n : ℕ) → n ≤ capture_bytes long → n < 2 ^ 32
counted true n fits = omega (arith, fits)
counted false n fits = omega (arith, fits)

-- what is read of 1 to 64 ports is within the limits of a plan
pub read_of_size : (r : ReadWords) (seen : Contents → Option Contents) (table : List ℕ) (captures : List (List ℕ))
    → ((c : Contents) → AreFilesRead r (seen c) table captures) → IsUpTo MAX_PORTS (length r.inputs) → AreOfSize table captures
read_of_size r seen table captures reads ports = let read = reads (record { file = λ name. None; begun = λ name. false; out = []; err = [] }) in record {
  ports = record { some = omega (arith, read.captures_read.count, ports.some); most = omega (arith, read.captures_read.count, ports.most) };
  table_fits = read.table_fits;
  captures_fit = λ k d k_in. counted r.long _ (read.captures_read.fit k d k_in);
}
