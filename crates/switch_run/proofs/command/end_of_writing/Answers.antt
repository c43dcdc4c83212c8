use Rattle.std.proofs.Common.{◌∙◌, arith}
use Rattle.switch_run.proofs.ToWrite.{made_done, made_write_fault, other_status, stopping_ends}
use Rattle.switch_run.proofs.command.end_of_writing.Goals as goal

pub put_texts-requires : goal.put_texts-requires
put_texts-requires g c = rw c.in-Ok.is at c.requires

pub returns-in-Ok-put_texts-clause-meaning : goal.returns-in-Ok-put_texts-clause-meaning
returns-in-Ok-put_texts-clause-meaning g c d job old was makes =
    let counts = g.F.Files.faults in
    let contents = g.F.Files.seen d in
    made_done job old (contents c.args.files.now) (contents c.put_texts.new.files) was (counts c.args.files.now) (counts c.put_texts.new.files)
    c.in-Ok.texts (rw c.in-Ok.is at makes) (c.in-Ok-put_texts.ensures.ok d)

pub returns-in-Ok-put_texts-clause-no_fault : goal.returns-in-Ok-put_texts-clause-no_fault
returns-in-Ok-put_texts-clause-no_fault g c d job old was makes zero p =
    let kept = rw c.in-Ok.is at makes.no_fault in
    c.in-Ok-put_texts.ensures.no_fault p ∙ kept p

pub returns-in-Ok-put_texts-clause-refused : goal.returns-in-Ok-put_texts-clause-refused
returns-in-Ok-put_texts-clause-refused g c d job old was makes p none =
    let kept = rw c.in-Ok.is at makes.no_fault in
    c.in-Ok-put_texts.ensures.no_fault p ∙ kept p

pub returns-in-Ok-clause-meaning : goal.returns-in-Ok-clause-meaning
returns-in-Ok-clause-meaning g c d job old was makes =
    let counts = g.F.Files.faults in
    let contents = g.F.Files.seen d in
    made_write_fault job old (contents c.args.files.now) (contents c.put_texts.new.files) was (counts c.args.files.now) (counts c.put_texts.new.files)
    c.in-Ok.texts (rw c.in-Ok.is at makes) _ (c.in-Err-put_texts.ensures.err d)

pub returns-in-Ok-clause-no_fault : goal.returns-in-Ok-clause-no_fault
returns-in-Ok-clause-no_fault g c d job old was makes zero = absurd (omega (arith, zero))

pub returns-in-Ok-clause-refused : goal.returns-in-Ok-clause-refused
returns-in-Ok-clause-refused g c d job old was makes p none =
    let kept = rw c.in-Ok.is at makes.no_fault in
    c.put_texts.ensures.no_others p none ∙ kept p

pub returns-clause-meaning : goal.returns-clause-meaning
returns-clause-meaning g c d job old was makes =
    let counts = g.F.Files.faults in
    let contents = g.F.Files.seen d in
    stopping_ends job old (contents c.args.files.now) was (counts c.args.files.now) c.in-Err.ending (rw c.in-Err.is at makes.stops)

pub returns-clause-no_fault : goal.returns-clause-no_fault
returns-clause-no_fault g c d job old was makes zero =
    let counts = g.F.Files.faults in
    let contents = g.F.Files.seen d in
    absurd (other_status job old (contents c.args.files.now) was (counts c.args.files.now) c.in-Err.ending makes.runs
    (rw c.in-Err.is at makes.stops) zero)

pub returns-clause-refused : goal.returns-clause-refused
returns-clause-refused g c d job old was makes = rw c.in-Err.is at makes.refused

pub returns-in-Ok-put_texts-clause-own : goal.returns-in-Ok-put_texts-clause-own
returns-in-Ok-put_texts-clause-own g c named d e alike = c.put_texts.ensures.own named d e alike

pub returns-in-Ok-clause-own : goal.returns-in-Ok-clause-own
returns-in-Ok-clause-own g c named d e alike = c.put_texts.ensures.own named d e alike

pub returns-clause-own : goal.returns-clause-own
returns-clause-own g c named d e alike = alike
