use Rattle.std.proofs.Common.{◌≡◌, ◌++◌, ◌∙◌, ℕ, List, map, take, string_bytes, subst, sym, arith, ap}
use Rattle.std.proofs.lemmas.List.{length-map}
use Rattle.outside.specs.Faults.{ToOut}
use Rattle.outside.proofs.Counting.{NeverFall-Rose}
use Rattle.job_files.specs.FileSteps.{StopsAtPlace, all_shown, pieced}
use Rattle.std.specs.Prelude.{option_map}
use Rattle.job_files.specs.OutputFiles.{put_files, shown}
use Rattle.job_files.specs.declared.output_files.OutputFile.{OutputFile}
use Rattle.job_files.proofs.Putting.{put_all, put_and_given, stops_after, stops_at_place, went_well, went_wrong}
use Rattle.job_files.proofs.output_files.put_texts.Goals as goal

pub returns-in-Err-clause-err : goal.returns-in-Err-clause-err
returns-in-Err-clause-err g c d =
    let see = g.F.Files.seen d in
    let counts = g.F.Files.faults in
    let same = c.as_slice.ensures.value in
    let old = c.args.files.now in
    let new = c.put_all.new.files in
    rw c.written_at.ensures
    (stops_at_place g.P.Pieces.left c.args.texts.now c.in-Err.place (see old) (see new) (counts old) (counts new) (rw same at c.in-Err.ensures.place)
    (rw same at (c.in-Err.ensures.err d)))

pub returns-then-is_err-clause-err : goal.returns-then-is_err-clause-err
returns-then-is_err-clause-err g c d =
    let see = g.F.Files.seen d in
    let counts = g.F.Files.faults in
    let texts = c.args.texts.now in
    let items = texts.files.items in
    let first = map shown items in
    let more = pieced g.P.Pieces.left texts.packets in
    let old = c.args.files.now in
    let mid = c.put_all.new.files in
    let new = c.put_packets.new.files in
    let put : see mid ≡ option_map (put_files first) (see old) =
    c.in_default.ensures.ok d ∙ ap (λ (files : List OutputFile). option_map (put_files (map shown files)) (see old)) c.as_slice.ensures.value in
    let stops = rw put at (went_wrong c.put_packets.result (sym c.is_err.ensures.value ∙ c.if-is_err.true) (c.put_packets.ensures.err d)) in
    subst (λ (n : ℕ). StopsAtPlace (first ++ more) n (see old) (counts old) (counts new) (see new)) (length-map items shown)
    (stops_after first more (counts old) (counts mid) (counts new) (see old) (see new) c.in_default.ensures.never_fall stops)

pub returns-then-is_err-clause-own : goal.returns-then-is_err-clause-own
returns-then-is_err-clause-own g c named d e alike = c.put_packets.ensures.own named d e (c.put_all.ensures.own named d e alike)

pub returns-in-Ok-clause-ok : goal.returns-in-Ok-clause-ok
returns-in-Ok-clause-ok g c d =
    let see = g.F.Files.seen d in
    let texts = c.args.texts.now in
    let old = see c.args.files.now in
    let packed = see c.put_packets.new.files in
    let put = c.in_default.ensures.ok d ∙ ap (λ (files : List OutputFile). option_map (put_files (map shown files)) old) c.as_slice.ensures.value in
    let wrote = went_well c.put_packets.result (sym c.is_err.ensures.value ∙ c.if-is_err.false) (c.put_packets.ensures.ok d) in
    put_and_given (all_shown g.P.Pieces.left texts) (string_bytes texts.summary) old packed (see c.put_out.new.files)
    (put_all (map shown texts.files.items) (pieced g.P.Pieces.left texts.packets) old (see c.put_all.new.files) packed put wrote)
    (rw (c.as_bytes.ensures.value, c.as_str.ensures.value) at (c.in-Ok.ensures.seen d))

pub returns-in-Err-put_out-clause-err : goal.returns-in-Err-put_out-clause-err
returns-in-Err-put_out-clause-err g c d =
    let see = g.F.Files.seen d in
    let counts = g.F.Files.faults in
    let texts = c.args.texts.now in
    let old = see c.args.files.now in
    let packed = see c.put_packets.new.files in
    let put = c.in_default.ensures.ok d ∙ ap (λ (files : List OutputFile). option_map (put_files (map shown files)) old) c.as_slice.ensures.value in
    let wrote = went_well c.put_packets.result (sym c.is_err.ensures.value ∙ c.if-is_err.false) (c.put_packets.ensures.ok d) in
    let stops = rw (c.as_bytes.ensures.value, c.as_str.ensures.value) at (c.in-Err-put_out.ensures.seen d) in
    record {
      rose = NeverFall-Rose (counts c.args.files.now) (counts c.put_packets.new.files) (counts c.put_out.new.files) ToOut
          (λ p. omega (arith, c.put_all.ensures.never_fall p, c.put_packets.ensures.never_fall p)) c.in-Err-put_out.ensures.cause;
      given = stops.0;
      new_is = put_and_given (all_shown g.P.Pieces.left texts) (take stops.0 (string_bytes texts.summary)) old packed (see c.put_out.new.files)
          (put_all (map shown texts.files.items) (pieced g.P.Pieces.left texts.packets) old (see c.put_all.new.files) packed put wrote) stops.1;
    }
