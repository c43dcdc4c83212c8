use Rattle.std.proofs.Common.{rules, ◌≡◌, ◌≤◌, ◌+◌, ◌-◌, ◌++◌, length, take, ◌∙◌, arith, length-append}
use Rattle.std.proofs.lemmas.List.{length-take-le}
use Rattle.outside.proofs.Fronts.{wholes, longers, appended}
use Rattle.outside.proofs.Staying.{IfSome-Stays, Stays-trans}
use Rattle.outside.proofs.whole_file.read_into.Goals as goal

pub returns-then-count-eq0-clause-bytes : goal.returns-then-count-eq0-clause-bytes
returns-then-count-eq0-clause-bytes g c d =
    let see = g.F.Files.seen d in
    let n : c.len.result ≡ length c.loop-count.bytes.items = search rules in
    wholes (see c.read.new.self) c.args.name.now c.loop-count.bytes.items c.read.new.buf (length c.loop-count.buf)
    (IfSome-Stays (see c.loop-count.files) (see c.read.new.self) _ (c.in_ok-count.ensures.seen d) (c.loop-count.invariant.front d))
    (rw (n, c.if-count-eq0.true) at (c.in_ok-count.ensures.piece d))
    (omega (arith, c.loop-count.auto.buf, c.requires.room))

pub loop-count-preserved : goal.loop-count-preserved
loop-count-preserved g c =
    let see = g.F.Files.seen in
    let n : c.len.result ≡ length c.loop-count.bytes.items = search rules in
    let m : c.len-in-loop-count.result ≡ length c.loop-count.bytes.items = search rules in
    let e = appended c.extend_from_slice.result c.extend_from_slice.new.self.items c.loop-count.bytes.items
    (take c.in_ok-count.count c.read.new.buf) c.extend_from_slice.ensures.items c.if-is_err.ensures.negation in
    let room : c.in_ok-count.count ≤ length c.loop-count.buf = c.in_ok-count.ensures.room in
    let fit : c.in_ok-count.count ≤ c.args.limit - c.len-in-loop-count.result = c.if-count-limit.false in
    let most : length c.loop-count.bytes.items ≤ c.args.limit = c.loop-count.invariant.most in
    let same : length c.read.new.buf ≡ length c.loop-count.buf = c.read.auto.buf in
    let k : length (take c.in_ok-count.count c.read.new.buf) ≡ c.in_ok-count.count = length-take-le c.in_ok-count.count c.read.new.buf (omega arith) in
    let sum : length (c.loop-count.bytes.items ++ take c.in_ok-count.count c.read.new.buf) ≡ length c.loop-count.bytes.items + length
    (take c.in_ok-count.count c.read.new.buf) = length-append c.loop-count.bytes.items (take c.in_ok-count.count c.read.new.buf) in
    record {
      seen = λ d. Stays-trans (see d c.args.files.now) (see d c.loop-count.files) (see d c.read.new.self) (c.loop-count.invariant.seen d)
          (c.in_ok-count.ensures.seen d);
      own = λ named is d e alike. c.in_ok-count.ensures.own named is d e (c.loop-count.invariant.own named is d e alike);
      no_fault = λ p. c.in_ok-count.ensures.no_fault p ∙ c.loop-count.invariant.no_fault p;
      never_fall = λ p. omega (arith, c.loop-count.invariant.never_fall p, c.in_ok-count.ensures.never_fall p);
      most = rw e (omega arith);
      front = λ d. rw e (longers (see d c.read.new.self) c.args.name.now c.loop-count.bytes.items c.read.new.buf (length c.loop-count.buf)
          c.in_ok-count.count
          (IfSome-Stays (see d c.loop-count.files) (see d c.read.new.self) _ (c.in_ok-count.ensures.seen d) (c.loop-count.invariant.front d))
          (rw n at (c.in_ok-count.ensures.piece d)));
    }
