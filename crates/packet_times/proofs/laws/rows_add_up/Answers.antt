use Rattle.packet_times.proofs.Asides.{add-up}
use Rattle.packet_times.proofs.laws.rows_add_up.Goals as goal

pub returns : goal.returns
returns c = λ scheduler settings files table captures plan slots scheduling good planned ends.
    add-up settings files table captures plan planned scheduler good slots scheduling ends
