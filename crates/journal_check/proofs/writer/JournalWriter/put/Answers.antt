use Rattle.std.proofs.Common.{◌+◌, ◌∙◌, ◌++◌, ap, length, List, ℕ, arith}
use Rattle.std.specs.List.{flat_map}
use Rattle.journal_check.specs.declared.writer.JournalWriter.TheInside.{Inside}
use Rattle.journal_check.specs.Texts.{file_post, post_text, output_text}
use Rattle.journal_check.specs.WritingSteps.{WriterValue}
use Rattle.journal_check.proofs.SlotsAdded.{slot_put}
use Rattle.journal_check.proofs.writer.JournalWriter.put.Goals as goal
use Rattle.journal_check.proofs.writer.JournalWriter.put.Goals.{then-len+in_ok-put_posts+in_ok-put_outputs, else-len}

pub returns-clause-file : goal.returns-clause-file
returns-clause-file c = λ file is.
    let view = c.self.view_is in
    let first = flat_map (λ post. post_text (file_post post)) c.args.posts.now in
    let second = flat_map output_text c.args.matched.now in
    let len = ap (λ (v : WriterValue). v.len + (c.posts_len.result + c.outputs_len.result)) view
    ∙ ap (λ (n : ℕ). c.args.self.now.len + (n + c.outputs_len.result)) c.posts_len.ensures.value
    ∙ ap (λ (n : ℕ). c.args.self.now.len + (length first + n)) c.outputs_len.ensures.value in
    elim c.if-len.branch [
      | then-len+in_ok-put_posts+in_ok-put_outputs w ↦
          let same = w.self-inside-is in
          slot_put file c.args.self.now _ c.args.posts.now c.args.matched.now is (record {
            ports = ap (λ (i : Inside). i.ports) same ∙ ap (λ (v : WriterValue). v.ports) view;
            rounds = ap (λ (i : Inside). i.rounds) same ∙ ap (λ (v : WriterValue). v.rounds) view;
            slots = ap (λ (i : Inside). i.slots + 1) same ∙ ap (λ (v : WriterValue). v.slots + 1) view;
            len = len;
            kept = λ few. ap (λ (i : Inside). i.bytes.items) same ∙ w.in_ok-put_outputs.ensures ∙ ap (λ (t : List ℕ). t ++ second) w.in_ok-put_posts.ensures
                ∙ ap (λ (v : WriterValue). (v.bytes ++ first) ++ second) view;
          })
      | else-len w ↦
          let same = w.self-inside-is in
          slot_put file c.args.self.now _ c.args.posts.now c.args.matched.now is (record {
            ports = ap (λ (i : Inside). i.ports) same ∙ ap (λ (v : WriterValue). v.ports) view;
            rounds = ap (λ (i : Inside). i.rounds) same ∙ ap (λ (v : WriterValue). v.rounds) view;
            slots = ap (λ (i : Inside). i.slots + 1) same ∙ ap (λ (v : WriterValue). v.slots + 1) view;
            len = len;
            kept = λ few. absurd (omega (arith, w.if-len.false));
          })
    ]
