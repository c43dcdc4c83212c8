use Rattle.std.proofs.Common.{◌∙◌, sym, arith}
use Rattle.slot_match.proofs.MarkBits.{level_at-from, level_at-bits, kind_at-multi, kind_at-from}
use Rattle.slot_match.proofs.marks.Marks.alike.Goals as goal

pub returns : goal.returns
returns c j =
    let marks = c.args.self.now in
    let kind = c.args.kind in
    let every = c.all.ensures.members j in
    let first = c.part-of_kind.ensures j in
    let second = c.part-alike.ensures j in
    let third = c.part.ensures j in
    let multi = c.is_multi.ensures in
    let odd = c.is_odd.ensures in
    let high = c.is_high.ensures in (
      λ has.
          let p = third.0 has in
          let q = second.0 p.0 in
          let r = first.0 q.0 in (
            every.0 r.0,
            level_at-from marks j c.args.level (omega arith) (λ e. q.1.0 (odd.1 e), λ h. odd.0 (q.1.1 h)) (λ e. p.1.0 (high.1 e), λ h. high.0 (p.1.1 h)),
            kind_at-from marks j kind (λ e. r.1.0 (multi.1 e), λ h. multi.0 (r.1.1 h)),
          ),
      λ p.
          let bits = level_at-bits marks j c.args.level p.1 in
          let of_multi = kind_at-multi marks j in
          third.1 (
            second.1 (
              first.1 (every.1 p.0, (λ t. of_multi.0 (p.2 ∙ multi.0 t), λ h. multi.1 (sym p.2 ∙ of_multi.1 h))),
              (λ t. bits.0.0 (odd.0 t), λ h. odd.1 (bits.0.1 h)),
            ),
            (λ t. bits.1.0 (high.0 t), λ h. high.1 (bits.1.1 h)),
          ),
    )
