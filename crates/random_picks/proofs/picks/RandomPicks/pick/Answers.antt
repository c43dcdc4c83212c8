use Rattle.std.proofs.Common.{◌≡◌, ◌∙◌, ◌*◌, ◌/◌, ℕ, ap, refl, slice_get, sym}
use Rattle.rand_xoshiro.specs.SplitMix64.{mix_u64}
use Rattle.made_traffic.specs.Streams.{half}
use Rattle.random_picks.specs.Picks.{drawn, members}
use Rattle.random_picks.proofs.Listing.{member-if, members-some, members-zero}
use Rattle.random_picks.proofs.Picking.{pick-some}
use Rattle.random_picks.proofs.picks.RandomPicks.pick.Goals as goal

pub returns-then-is_empty-clause-pick : goal.returns-then-is_empty-clause-pick
returns-then-is_empty-clause-pick c = rw (members-zero c.args.ports (c.is_empty.ensures.zero.0 c.if-is_empty.true)) refl

pub returns-clause-pick : goal.returns-clause-pick
returns-clause-pick c =
    let ports = members c.args.ports in
    let some = members-some c.args.ports c.ranges.ports.fits (λ none. let empty = c.is_empty.ensures.zero.1 none in cc) in
    let word = ap (λ p. p.0) c.next_word-word.ensures ∙ ap (λ (s : ℕ). (mix_u64 s).0) c.self.view_is in
    let stream = ap (λ p. p.1) c.next_word-word.ensures ∙ ap (λ (s : ℕ). (mix_u64 s).1) c.self.view_is in
    let count = c.from.ensures ∙ c.count.ensures.value in
    let port : c.member.result ≡ drawn (mix_u64 c.args.self.now).0 ports = c.member.ensures ∙ (λ i. slice_get ports (word i / half * count i / half)) in
    (λ i. record { port = port i; stream = stream i }) ∙ sym (pick-some ports c.args.self.now some)

pub returns-clause-member : goal.returns-clause-member
returns-clause-member c = member-if c.args.ports _ c.member.result c.member.ensures
