use Rattle.std.proofs.Common.{◌≡◌, false, true, inl, inr, refl}
use Rattle.pest_run.proofs.run.run_files.Goals as goal

pub returns-in_default-clause-tells_unread : goal.returns-in_default-clause-tells_unread
returns-in_default-clause-tells_unread g c = λ three.
    record {
      source = c.args.grammar.now;
      given = inl refl;
      unreadable = λ r. (let no : false ≡ true = c.in_default.ensures.readable.1 r in cc);
      line = c.unreadable.ensures.tells;
    }

pub returns-in_default-text_of-clause-tells_unread : goal.returns-in_default-text_of-clause-tells_unread
returns-in_default-text_of-clause-tells_unread g c = λ three.
    record {
      source = c.args.text.now;
      given = inr refl;
      unreadable = λ r. (let no : false ≡ true = c.in_default-text_of.ensures.readable.1 r in cc);
      line = c.unreadable-in_default-text_of.ensures.tells;
    }
