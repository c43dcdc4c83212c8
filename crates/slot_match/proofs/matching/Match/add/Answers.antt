use Rattle.std.proofs.Common.{rules}
use Rattle.slot_match.proofs.Kept.{AreKept-added, count_fits, after_count, after_stays, after_fed, after_whole}
use Rattle.slot_match.proofs.matching.Match.add.Goals as goal

pub overflow_add-self : goal.overflow_add-self
overflow_add-self c =
    let fits = count_fits c.self.inside.ports c.self.inside.count c.self.inside.fed c.self.inside.free_inputs c.self.inside.free_outputs
    c.self.invariant c.args.self.now c.self.view_is c.args.input c.args.outputs c.args.level c.args.kind c.requires.input_in
    c.requires.level_in c.requires.may
    c.feed.new.fed c.feed.result c.feed.ensures.long c.feed.ensures.fed c.feed.ensures.stays c.feed.ensures.counted in
    search rules

pub invariant_of-self : goal.invariant_of-self
invariant_of-self c =
    AreKept-added c.self.inside.ports c.self.inside.count c.self.inside.fed c.self.inside.free_inputs c.self.inside.free_outputs
    c.self.invariant c.args.self.now c.self.view_is c.args.input c.args.outputs c.args.level c.args.kind c.requires.input_in c.requires.level_in
    c.requires.may
    c.feed.new.fed c.feed.result c.feed.ensures.long c.feed.ensures.fed c.feed.ensures.stays c.feed.ensures.counted
    c.without-self-inside.result c.difference-self-inside.result c.without-self-inside.ensures.members c.difference-self-inside.ensures

pub returns-clause-count : goal.returns-clause-count
returns-clause-count c =
    after_count c.self.inside.ports c.self.inside.count c.self.inside.fed c.self.inside.free_inputs c.self.inside.free_outputs
    c.self.invariant c.args.self.now c.self.view_is c.args.input c.args.outputs c.args.level c.args.kind c.requires.input_in c.requires.level_in
    c.requires.may
    c.feed.new.fed c.feed.result c.feed.ensures.long c.feed.ensures.fed c.feed.ensures.stays c.feed.ensures.counted

pub returns-clause-fed : goal.returns-clause-fed
returns-clause-fed c =
    after_fed c.self.inside.ports c.self.inside.count c.self.inside.fed c.self.inside.free_inputs c.self.inside.free_outputs
    c.self.invariant c.args.self.now c.self.view_is c.args.input c.args.outputs c.args.level c.args.kind c.requires.input_in c.requires.level_in
    c.requires.may
    c.feed.new.fed c.feed.result c.feed.ensures.long c.feed.ensures.fed c.feed.ensures.stays c.feed.ensures.counted

pub returns-clause-stays : goal.returns-clause-stays
returns-clause-stays c =
    after_stays c.self.inside.ports c.self.inside.count c.self.inside.fed c.self.inside.free_inputs c.self.inside.free_outputs
    c.self.invariant c.args.self.now c.self.view_is c.args.input c.args.outputs c.args.level c.args.kind c.requires.input_in c.requires.level_in
    c.requires.may
    c.feed.new.fed c.feed.result c.feed.ensures.long c.feed.ensures.fed c.feed.ensures.stays c.feed.ensures.counted

pub returns-clause-whole : goal.returns-clause-whole
returns-clause-whole c =
    after_whole c.self.inside.ports c.self.inside.count c.self.inside.fed c.self.inside.free_inputs c.self.inside.free_outputs
    c.self.invariant c.args.self.now c.self.view_is c.args.input c.args.outputs c.args.level c.args.kind c.requires.input_in c.requires.level_in
    c.requires.may
    c.feed.new.fed c.feed.result c.feed.ensures.long c.feed.ensures.fed c.feed.ensures.stays c.feed.ensures.counted
