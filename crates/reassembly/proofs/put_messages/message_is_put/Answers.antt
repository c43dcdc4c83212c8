use Rattle.reassembly.proofs.Taking.{Fits-next, with_cell-more, with_cell-last, bytes-last, last-more, last-end}
use Rattle.reassembly.proofs.put_messages.message_is_put.Goals as goal

pub returns-clause-fits : goal.returns-clause-fits
returns-clause-fits c all size input level k kind message ports input_in level_in few room more =
    Fits-next all size input level k kind message
    (record { ports = ports; input_in = input_in; level_in = level_in; few = few; room = room; more = more })

pub returns-clause-more : goal.returns-clause-more
returns-clause-more c = last-more

pub returns-clause-stands : goal.returns-clause-stands
returns-clause-stands c = with_cell-more

pub returns-clause-last : goal.returns-clause-last
returns-clause-last c = last-end

pub returns-clause-ends : goal.returns-clause-ends
returns-clause-ends c = with_cell-last

pub returns-clause-whole : goal.returns-clause-whole
returns-clause-whole c = bytes-last
