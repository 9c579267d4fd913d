use Rattle.std.proofs.Common.{ap, ◌∙◌}
use Rattle.serde_json.specs.Written.{compact_text}
use Rattle.format_json.specs.Errors.{answer_data}
use Rattle.pest_meta_c.specs.Answers.{IsWhole}
use Rattle.pest_meta_c.proofs.Answering.{answered_from}
use Rattle.pest_meta_c.proofs.calls.parse_and_optimize.Goals as goal

pub returns-in-Ok-clause-answered : goal.returns-in-Ok-clause-answered
returns-in-Ok-clause-answered c =
    let kept = c.in-Ok.ensures in
    answered_from (IsWhole c.args.text.now) (answer_data c.deref.result.now c.deref-in-Ok.result.now) c.answer_text-json.result c.to_outcome.result c.answer_text-json.ensures
    (λ bytes e. record {
      builtins = c.in-Ok.builtins.items;
      rules = c.in-Ok.rules.items;
      promised = record {
        answer = kept.answer;
        builtins_of = kept.builtins;
        sound = kept.sound;
        outcomes = kept.outcomes;
        ends = kept.ends;
        answer_ends = kept.answer_ends;
        no_reports = kept.no_reports;
        agrees = kept.agrees;
        no_refusal = kept.no_refusal;
      };
      written = e ∙ ap (λ names. compact_text (answer_data names c.deref-in-Ok.result.now)) c.deref.ensures.value
          ∙ ap (λ rules. compact_text (answer_data c.in-Ok.builtins.items rules)) c.deref-in-Ok.ensures.value;
    })
    c.to_outcome.ensures.answered
