use Rattle.std.proofs.Common.{◌≡◌, ◌≤◌, ◌∷◌, ap, arith, length, take}
use Rattle.outside.specs.Events.{Gave, seen}
use Rattle.outside.proofs.Seeing.{agreeing_AreAlike, agreeing_GivesPiece}
use Rattle.outside.proofs.disk_files.DiskFilesFiles.read.Goals as goal

pub returns-in-Ok-clause-piece : goal.returns-in-Ok-clause-piece
returns-in-Ok-clause-piece g c held =
    let old = c.args.self.now in
    let room = length c.args.buf.now in
    let piece = take c.in-Ok.count c.read_at.new.buf in
    let noted : c.read_at.new.self.calls ≡ Gave c.args.name.now c.args.at room piece ∷ old.calls = ap (λ d. d.calls) c.in-Ok.ensures.calls in
    let short : c.in-Ok.count ≤ length c.read_at.new.buf = omega (arith, c.in-Ok.ensures.room, c.read_at.auto.buf) in
    rw noted (agreeing_GivesPiece c.args.name.now c.args.at room c.read_at.new.buf c.in-Ok.count (seen old.calls held) short)

pub returns-in-Ok-clause-own : goal.returns-in-Ok-clause-own
returns-in-Ok-clause-own g c named is a b alike =
    let old = c.args.self.now in
    let room = length c.args.buf.now in
    let piece = take c.in-Ok.count c.read_at.new.buf in
    let noted : c.read_at.new.self.calls ≡ Gave c.args.name.now c.args.at room piece ∷ old.calls = ap (λ d. d.calls) c.in-Ok.ensures.calls in
    rw noted (agreeing_AreAlike named c.args.name.now c.args.at room piece (seen old.calls a) (seen old.calls b) is alike)
