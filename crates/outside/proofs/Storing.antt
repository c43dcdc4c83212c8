-- What a change of one file makes of the contents and of the counts.
use Rattle.std.proofs.Common.{◌≡◌, ℕ, List, [], ◌++◌, Bool, true, false, cond, Option, Some, None, refl, sym, ◌∙◌, ap}
use Rattle.std.specs.Prelude.{option_map, unwrap_or, is_none, bytes_eq, ◌||◌, ◌&&◌}
use Rattle.std.proofs.lemmas.Slice.Eq.{bytes_eq-Decides}
use Rattle.outside.specs.Calls.{one_more, raised, NamesFile}
use Rattle.outside.specs.Contents.{begin_file, append_file}
use Rattle.outside.specs.Faults.{Place, ReadOf, BeginOf, WriteOf, ToOut, ToErr}
use Rattle.outside.specs.MemoryFiles.{FileState, file_named, contents_among, counts_at, faults_among, is_counted, is_alike, PutsFile, CountsFault}
use Rattle.outside.specs.declared.memory_files.calls.Call.{Call}
use Rattle.outside.specs.declared.memory_files.calls.Call.TheVariants.{Read, Begin, Write}
use Rattle.outside.specs.declared.memory_files.calls.CallCounts.{CallCounts}

-- One file in place of another under a name

-- The name found one file, and finds another in its place now; all other names find what they found.
pub record IsChanged (name : List ℕ) (old new : List FileState) : Type 0 where
  pub was : FileState
  pub now : FileState
  pub there : file_named name old ≡ Some was
  pub puts : PutsFile old new name now

-- a name that is the same finds the same
finds_same : (name n : List ℕ) (fs : List FileState) (o : Option FileState) → file_named name fs ≡ o → bytes_eq n name ≡ true → file_named n fs ≡ o
finds_same name n fs o there same = let e : n ≡ name = (bytes_eq-Decides n name).0 same in rw e there

-- what the new file has as the old one, each name finds as before
kept_at : {X : Type 0} (g : FileState → X) (same : Bool) (o : Option FileState) (f after : FileState) → (same ≡ true → o ≡ Some f) → g after ≡ g f
    → option_map g (cond same (Some after) o) ≡ option_map g o
kept_at g true o f after there e = ap Some e ∙ sym (ap (option_map g) (there refl))
kept_at g false o f after there e = refl

kept : {X : Type 0} (g : FileState → X) (name : List ℕ) (old new : List FileState) (c : IsChanged name old new) → g c.now ≡ g c.was
    → (n : List ℕ) → option_map g (file_named n new) ≡ option_map g (file_named n old)
kept g name old new c e n =
    ap (option_map g) (c.puts.finds n) ∙ kept_at g (bytes_eq n name) (file_named n old) c.was c.now (finds_same name n old (Some c.was) c.there) e

-- A failed call

-- a change of a file's counts alone changes no content
counted_contents : (name : List ℕ) (old new : List FileState) (c : IsChanged name old new) → c.now.bytes ≡ c.was.bytes → c.now.begun ≡ c.was.begun
    → (out err : List ℕ) → contents_among new out err ≡ contents_among old out err
counted_contents name old new c bytes begun out err = λ j. record {
  file = λ n. kept (λ (g : FileState). g.bytes) name old new c bytes n j;
  begun = λ n. unwrap_or (kept (λ (g : FileState). g.begun) name old new c begun n j) false;
  out = out;
  err = err;
}

found_counts : (call : Call) (name n : List ℕ) (old : List FileState) (f : FileState) (was : CallCounts) → file_named name old ≡ Some f
    → (same : Bool) → bytes_eq n name ≡ same
    → unwrap_or (option_map (λ (g : FileState). g.faults) (cond same (Some (record f { faults = one_more call f.faults })) (file_named n old))) was
    ≡ cond (same || (is_none (option_map (λ (g : FileState). g.bytes) (file_named name old))
    && is_none (option_map (λ (g : FileState). g.bytes) (file_named n old)))) (one_more call (counts_at old was n)) (counts_at old was n)
found_counts call name n old f was there true same = rw (finds_same name n old (Some f) there same) refl
found_counts call name n old f was there false same = rw there refl

-- it counts in the file of its name
pub counted_found : (call : Call) (name : List ℕ) (old new : List FileState) (f : FileState) (was : CallCounts) → file_named name old ≡ Some f
    → PutsFile old new name (record f { faults = one_more call f.faults })
    → CountsFault call name old new was was
counted_found call name old new f was there puts = record {
  contents = counted_contents name old new (record { was = f; now = record f { faults = one_more call f.faults }; there = there; puts = puts }) refl refl;
  counts = λ n. ap (λ o. unwrap_or (option_map (λ (g : FileState). g.faults) o) was) (puts.finds n)
      ∙ found_counts call name n old f was there (bytes_eq n name) refl;
  out = refl;
  err = refl;
}

missing_counts : (call : Call) (was : CallCounts) (same : Bool) (o : Option FileState) → (same ≡ true → o ≡ None)
    → unwrap_or (option_map (λ (g : FileState). g.faults) o) (one_more call was)
    ≡ cond (same || is_none (option_map (λ (g : FileState). g.bytes) o)) (one_more call (unwrap_or (option_map (λ (g : FileState). g.faults) o) was))
    (unwrap_or (option_map (λ (g : FileState). g.faults) o) was)
missing_counts call was true None none = refl
missing_counts call was false None none = refl
missing_counts call was true (Some f) none = let at = none refl in absurd (cc)
missing_counts call was false (Some f) none = refl

others_kept : (call : Call) (was : CallCounts) → NamesFile call → ((one_more call was).out ≡ was.out) × ((one_more call was).err ≡ was.err)
others_kept Read was names = (refl, refl)
others_kept Begin was names = (refl, refl)
others_kept Write was names = (refl, refl)
others_kept _ was names = absurd names

-- it counts elsewhere, at all names that are not there
pub counted_missing : (call : Call) (name : List ℕ) (old : List FileState) (was : CallCounts) → NamesFile call → file_named name old ≡ None
    → CountsFault call name old old was (one_more call was)
counted_missing call name old was names none = record {
  contents = λ out err. refl;
  counts = λ n. rw none (missing_counts call was (bytes_eq n name) (file_named n old) (finds_same name n old None none));
  out = (others_kept call was names).0;
  err = (others_kept call was names).1;
}

part_of : (g : CallCounts → ℕ) (here : Bool) (a b : CallCounts) → g (cond here a b) ≡ cond here (g a) (g b)
part_of g true a b = refl
part_of g false a b = refl

part_kept : (g : CallCounts → ℕ) (here : Bool) (a b : CallCounts) → g a ≡ g b → g (cond here a b) ≡ g b
part_kept g true a b e = e
part_kept g false a b e = refl

-- the counts after a failed call that names a file

pub begin_counted : (name : List ℕ) (old new : List FileState) (was now : CallCounts) (out err : List ℕ) → CountsFault Begin name old new was now
    → (p : Place) → faults_among new now p ≡ cond (is_counted (contents_among old out err) (BeginOf name) p) (raised (faults_among old was p))
    (faults_among old was p)
begin_counted name old new was now out err c (ReadOf n) = ap (λ x. x.read) (c.counts n)
    ∙ part_kept (λ (x : CallCounts). x.read) (is_alike (contents_among old [] []).file name n) (one_more Begin (counts_at old was n)) (counts_at old was n) refl
begin_counted name old new was now out err c (BeginOf n) = ap (λ x. x.begin) (c.counts n)
    ∙ part_of (λ (x : CallCounts). x.begin) (is_alike (contents_among old [] []).file name n) (one_more Begin (counts_at old was n)) (counts_at old was n)
begin_counted name old new was now out err c (WriteOf n) = ap (λ x. x.write) (c.counts n)
    ∙ part_kept (λ (x : CallCounts). x.write) (is_alike (contents_among old [] []).file name n) (one_more Begin (counts_at old was n))
    (counts_at old was n) refl
begin_counted name old new was now out err c ToOut = c.out
begin_counted name old new was now out err c ToErr = c.err

-- What a raised count says

-- A file that is begun

begun_file : (here : Bool) (after : FileState) (o : Option FileState) → after.bytes ≡ []
    → option_map (λ (f : FileState). f.bytes) (cond here (Some after) o) ≡ cond here (Some []) (option_map (λ (f : FileState). f.bytes) o)
begun_file true after o empty = ap Some empty
begun_file false after o empty = refl

begun_flag : (here : Bool) (after : FileState) (o : Option FileState) → after.begun ≡ true
    → unwrap_or (option_map (λ (f : FileState). f.begun) (cond here (Some after) o)) false ≡
    (here || unwrap_or (option_map (λ (f : FileState). f.begun) o) false)
begun_flag true after o begun = begun
begun_flag false after o begun = refl

pub begun_contents : (name : List ℕ) (old new : List FileState) (after : FileState) (out err : List ℕ) → PutsFile old new name after → after.bytes ≡ []
    → after.begun ≡ true
    → contents_among new out err ≡ begin_file name (contents_among old out err)
begun_contents name old new after out err puts empty begun = λ j. record {
  file = λ n. begun_file_at n j;
  begun = λ n. begun_flag_at n j;
  out = out;
  err = err;
}
  where
    begun_file_at : (n : List ℕ)
        → option_map (λ (f : FileState). f.bytes) (file_named n new) ≡ cond (bytes_eq n name) (Some [])
        (option_map (λ (f : FileState). f.bytes) (file_named n old))
    begun_file_at n = ap (option_map (λ (f : FileState). f.bytes)) (puts.finds n) ∙ begun_file (bytes_eq n name) after (file_named n old) empty

    begun_flag_at : (n : List ℕ)
        → unwrap_or (option_map (λ (f : FileState). f.begun) (file_named n new)) false ≡
        (bytes_eq n name || unwrap_or (option_map (λ (f : FileState). f.begun) (file_named n old)) false)
    begun_flag_at n = ap (λ o. unwrap_or (option_map (λ (f : FileState). f.begun) o) false) (puts.finds n)
        ∙ begun_flag (bytes_eq n name) after (file_named n old) begun

-- A file that is written

-- a file that was begun is there
pub begun_is_there : (o : Option FileState) → o ≡ None → unwrap_or (option_map (λ (f : FileState). f.begun) o) false ≡ true → ⊥
begun_is_there None none begun = absurd (cc)
begun_is_there (Some f) none begun = absurd (cc)

appended_file : (same : Bool) (o : Option FileState) (f after : FileState) (more : List ℕ) → (same ≡ true → o ≡ Some f) → after.bytes ≡ f.bytes ++ more
    → option_map (λ (g : FileState). g.bytes) (cond same (Some after) o)
    ≡ cond same (option_map (λ bytes. bytes ++ more) (option_map (λ (g : FileState). g.bytes) o)) (option_map (λ (g : FileState). g.bytes) o)
appended_file true o f after more there e = rw (there refl) (ap Some e)
appended_file false o f after more there e = refl

pub appended_contents : (name : List ℕ) (old new : List FileState) (c : IsChanged name old new) (more out err : List ℕ)
    → c.now.bytes ≡ c.was.bytes ++ more → c.now.begun ≡ c.was.begun
    → contents_among new out err ≡ append_file name more (contents_among old out err)
appended_contents name old new c more out err bytes begun = λ j. record {
  file = λ n. appended_file_at n j;
  begun = λ n. unwrap_or (kept (λ (g : FileState). g.begun) name old new c begun n j) false;
  out = out;
  err = err;
}
  where
    appended_file_at : (n : List ℕ) → option_map (λ (g : FileState). g.bytes) (file_named n new)
        ≡ cond (bytes_eq n name) (option_map (λ bytes. bytes ++ more) (option_map (λ (g : FileState). g.bytes) (file_named n old)))
        (option_map (λ (g : FileState). g.bytes) (file_named n old))
    appended_file_at n = ap (option_map (λ (g : FileState). g.bytes)) (c.puts.finds n)
        ∙ appended_file (bytes_eq n name) (file_named n old) c.was c.now more (finds_same name n old (Some c.was) c.there) bytes

-- Counts that stay at each name stay at each place

-- the file that is begun in place of the one that was there
pub begun_is : (name : List ℕ) (fs : List FileState) (d : FileState) (elsewhere : CallCounts) → file_named name fs ≡ Some d → d.name ≡ name
    → record d { bytes = []; begun = true } ≡ record { name = name; bytes = []; room = d.room; begun = true; faults = counts_at fs elsewhere name }
begun_is name fs d elsewhere there is = λ j. record {
  name = is j;
  bytes = [];
  room = d.room;
  begun = true;
  faults = unwrap_or (option_map (λ (f : FileState). f.faults) (sym there j)) elsewhere;
}
