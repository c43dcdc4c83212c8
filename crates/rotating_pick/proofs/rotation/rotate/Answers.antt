use Rattle.std.proofs.Common.{◌≡◌, ◌+◌, ◌-◌, ◌%◌, ◌∙◌, sym, arith}
use Rattle.std.specs.Int.{bit_at}
use Rattle.rotating_pick.proofs.Bits.{turned, rotated-is, turned-lt, bit_at-turned}
use Rattle.rotating_pick.proofs.rotation.rotate.Goals as goal

pub returns-clause-among : goal.returns-clause-among
returns-clause-among c =
    let n = c.args.n in
    let by = c.args.by in
    let ports = c.args.ports in
    let e : n - by + by ≡ n = omega arith in
    rw (rotated-is n by ports c.requires.by_in c.requires.size (omega arith) c.requires.among)
    (rw e at (turned-lt (n - by) by ports (rw e c.requires.among)))

pub returns-clause-members : goal.returns-clause-members
returns-clause-members c x within =
    let n = c.args.n in
    let by = c.args.by in
    let ports = c.args.ports in
    let e : n - by + by ≡ n = omega arith in
    let same : bit_at (turned (n - by) by ports) x ≡ bit_at ports ((x + by) % n) =
    rw e at (bit_at-turned (n - by) by ports x (rw e c.requires.among) (rw e within)) in
    rw (rotated-is n by ports c.requires.by_in c.requires.size (omega arith) c.requires.among)
    (λ has. sym same ∙ has, λ has. same ∙ has)
