use Rattle.std.proofs.Common.{All, subst, sym}
use Rattle.program_support.specs.Folders.{IsGrammarName}
use Rattle.program_support.proofs.folders.list_folder.Goals.{in-Ok-file_type+in_ok-push-in-Ok-file_type, in-Ok-2+in_ok-add_grammar-in-Ok-2, in_default}
use Rattle.program_support.proofs.folders.list_folder.Goals as goal

pub loop-entry-preserved : goal.loop-entry-preserved
loop-entry-preserved c = record {
  can_next = tt;
  is_finite = tt;
  named = λ given.
      let named = c.loop-entry.invariant.named given in
      elim c.match-file_type.branch [
        | in-Ok-file_type+in_ok-push-in-Ok-file_type w ↦
            subst (λ files. All IsGrammarName files.items) (sym w.files-is) named
        | in-Ok-2+in_ok-add_grammar-in-Ok-2 w ↦
            subst (λ files. All IsGrammarName files.items) (sym w.files-is) (w.add_grammar.ensures named)
        | in_default w ↦ subst (λ files. All IsGrammarName files.items) (sym w.files-is) named
      ];
}
