use Rattle.std.proofs.Common.{◌≡◌, ◌∙◌, List, ◌++◌, ℕ, ap, append_assoc, string_bytes}
use Rattle.std.specs.Prelude.{codes, decimal}
use Rattle.std.proofs.lemmas.Result.{on_ok_weaker}
use Rattle.std_lemmas.proofs.Appending.{appended}
use Rattle.card_core.specs.Plans.{Queue}
use Rattle.slot_report.specs.Lines.{line_text}
use Rattle.queue_measures.specs.declared.numbers.QueueNumbers.{QueueNumbers}
use Rattle.queue_measures.specs.Lines.{queue_line, queue_name}
use Rattle.queue_measures.specs.Steps.{queue_at}
use Rattle.queue_measures.proofs.text.put_queue.Goals as goal

joined : (old : List ℕ) (input : ℕ) (q : Queue) (numbers : QueueNumbers)
    → ((((((((((((old ++ codes "queue ") ++ queue_name input q) ++ codes " packets ") ++ decimal numbers.packets) ++ codes " dropped ")
    ++ decimal numbers.dropped)
    ++ codes " cells ") ++ decimal numbers.cells) ++ codes " peak ") ++ decimal numbers.peak) ++ codes " slot ") ++ decimal numbers.slot) ++ codes "\n"
    ≡ old ++ line_text (queue_line input q numbers)
unfolding line_text queue_line
joined old input q numbers = simp append_assoc

pub returns : goal.returns
returns c =
    let n = c.args.numbers in
    on_ok_weaker c.push_str-2.result
    (λ end.
    end
    ∙ ap (λ s. s ++ codes "\n") (c.in_ok-put_number-5.ensures
    ∙ ap (λ s. (s ++ codes " slot ") ++ decimal n.slot) (c.in_ok-put_number-4.ensures
    ∙ ap (λ s. (s ++ codes " peak ") ++ decimal n.peak) (c.in_ok-put_number-3.ensures
    ∙ ap (λ s. (s ++ codes " cells ") ++ decimal n.cells) (c.in_ok-put_number-2.ensures
    ∙ ap (λ s. (s ++ codes " dropped ") ++ decimal n.dropped) (c.in_ok-put_number.ensures
    ∙ ap (λ s. (s ++ codes " packets ") ++ decimal n.packets) (c.in_ok-put_name.ensures
    ∙ ap (λ s. s ++ queue_name c.args.input (queue_at c.args.ports c.args.place)) c.in_ok-push_str.ensures.bytes))))))
    ∙ joined (string_bytes c.args.text.now) c.args.input (queue_at c.args.ports c.args.place) n)
    (appended c.push_str-2.result (string_bytes c.put_number-5.new.text) (codes "\n") (string_bytes c.push_str-2.new.self) c.push_str-2.ensures.bytes)
