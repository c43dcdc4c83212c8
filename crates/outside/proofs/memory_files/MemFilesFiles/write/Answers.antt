use Rattle.std.proofs.Common.{◌≡◌, ℕ, List, ◌++◌, Some, length, take, min, ap, sym, ◌∙◌, refl, arith, subst, inl, inr}
use Rattle.std.proofs.lemmas.List.{length-take-le}
use Rattle.outside.specs.MemoryFiles.{FileState, file_named, contents_among, HasNoRoom}
use Rattle.outside.proofs.Storing.{appended_contents, begun_is_there}
use Rattle.outside.proofs.memory_files.MemFilesFiles.write.Goals as goal

-- a first piece has its length
piece_long : (piece bytes : List ℕ) (most : ℕ) → piece ≡ take (min most (length bytes)) bytes → length piece ≡ min most (length bytes)
piece_long piece bytes most is = ap length is ∙ length-take-le (min most (length bytes)) bytes (omega arith)

-- a first piece is as many bytes from the front as it is long
piece_again : (piece bytes : List ℕ) (most : ℕ) → piece ≡ take (min most (length bytes)) bytes → take (length piece) bytes ≡ piece
piece_again piece bytes most is = rw (piece_long piece bytes most is) (sym is)

pub returns-then-fails_next-clause-seen : goal.returns-then-fails_next-clause-seen
returns-then-fails_next-clause-seen c held =
    rw (← c.self.view_is) (ap Some (c.count_fault.ensures.contents c.self.inside.out.items c.self.inside.err.items))

pub returns-in-Ok-clause-seen : goal.returns-in-Ok-clause-seen
returns-in-Ok-clause-seen c held =
    let m = c.self.inside in
    let piece = c.first_piece-piece.result.now in
    let f : FileState = c.in-Ok.ensures.ok.0 in
    let after : FileState = record f { bytes = f.bytes ++ piece; room = c.in-Ok.ensures.ok.1 } in
    rw (piece_again piece c.args.bytes.now m.piece c.first_piece-piece.ensures, ← c.self.view_is)
    (ap Some (appended_contents c.args.name.now m.files.items c.append_to.new.files.items
    (record { was = f; now = after; there = c.in-Ok.ensures.ok.2; puts = c.in-Ok.ensures.ok.3 }) piece m.out.items m.err.items refl refl))

pub returns-in-Err-clause-seen : goal.returns-in-Err-clause-seen
returns-in-Err-clause-seen c held =
    let m = c.self.inside in
    rw (← c.self.view_is)
    (ap Some (c.count_fault-in-Err.ensures.contents m.out.items m.err.items ∙ ap (λ fs. contents_among fs m.out.items m.err.items) c.in-Err.ensures.err))

pub returns-in-Err-clause-cause_of_failure : goal.returns-in-Err-clause-cause_of_failure
returns-in-Err-clause-cause_of_failure c =
    let name = c.args.name.now in
    let m = c.self.inside in
    let long = piece_long c.first_piece-piece.result.now c.args.bytes.now m.piece c.first_piece-piece.ensures in
    let begun = rw (← c.self.view_is) at c.requires.begun in
    rw (← c.self.view_is)
    (elim c.in-Err.ensures.cause [
      | inl none ↦ absurd (begun_is_there (file_named name m.files.items) none begun)
      | inr full ↦ inr (subst (λ (n : ℕ). HasNoRoom m.files.items name n) long full)
    ])
