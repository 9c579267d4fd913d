-- Rules that are read once, in the forms in which they are run.
use Rattle.std.proofs.Common.{◌≡◌, sym, subst, ◌∙◌, List, ℕ, refl, Ok, Err, Result}
use Rattle.std.specs.Prelude.{IfOk}
use Rattle.std.specs.declared.alloc.Global.{Global}
use Rattle.std.specs.declared.vec.Vec.{Vec}
use Rattle.base_ast.specs.Ast.{rules_of}
use Rattle.base_ast.specs.Optimized.{optimized_rules_of}
use Rattle.base_ast.specs.declared.optimized.OptimizedRule.{OptimizedRule}
use Rattle.base_language.specs.Language.Expression.{Grammar}
use Rattle.base_language.specs.Rewritings.Rewriting.{SameOutcomes}
use Rattle.front_optimizer.specs.Passes.{IsOptimized}
use Rattle.front_optimizer.specs.Written.{AreWrittenOut}
use Rattle.pest_meta.specs.Spelling.{AreAccepted}
use Rattle.pest_meta.specs.Written.{SpellsAccepted}
use Rattle.pest_run.specs.Grammars.{IsReadFrom}
use Rattle.pest_run.specs.Written.{AreRun}
use Rattle.pest_run.specs.declared.arguments.RuleForm.TheVariants as form_is
use Rattle.pest_run.specs.declared.grammars.GrammarRules.{GrammarRules}

-- the rules that are read are accepted
accepted : (grammar : List ℕ) (it : GrammarRules) (rules : Grammar) → IsReadFrom grammar it → rules ≡ rules_of it.rules.value.items → SpellsAccepted grammar rules
accepted grammar it rules r e = record {
  trees = r.spells.trees;
  of_text = r.spells.of_text;
  well_named = r.spells.well_named;
  accepted = subst (AreAccepted grammar r.spells.trees) (sym (e ∙ r.same)) r.spells.accepted;
}

-- as they are written
pub written_run : (grammar : List ℕ) (it : GrammarRules) (rules run : Grammar) → IsReadFrom grammar it → rules ≡ rules_of it.rules.value.items
    → AreWrittenOut rules run → SameOutcomes rules run → AreRun form_is.Written grammar run
written_run grammar it rules run r e w o = record { spelled = rules; accepted = accepted grammar it rules r e; written_out = w; outcomes = o }

-- as the optimizer returns them
pub optimized_run : (grammar : List ℕ) (it : GrammarRules) (rules : Grammar) (run : List OptimizedRule) → IsReadFrom grammar it → rules ≡ rules_of it.rules.value.items
    → IsOptimized rules (optimized_rules_of run) → AreRun form_is.Optimized grammar (optimized_rules_of run)
optimized_run grammar it rules run r e o =
    record {
      builtins = r.builtins;
      answer = run;
      answers = record {
        trees = r.spells.trees;
        of_text = r.spells.of_text;
        well_named = r.spells.well_named;
        uses = r.spells.uses;
        spelled = rules;
        accepted = subst (AreAccepted grammar r.spells.trees) (sym (e ∙ r.same)) r.spells.accepted;
        optimized = o;
      };
      same = refl;
    }

-- so are the rules that are there
pub written_all : {E : Type 0} (grammar : List ℕ) (it : GrammarRules) (rules : Grammar) (answer : Result (Vec OptimizedRule Global) E) → IsReadFrom grammar it → rules ≡ rules_of it.rules.value.items
    → IfOk answer (λ run. AreWrittenOut rules (optimized_rules_of run.items)) → IfOk answer (λ run. SameOutcomes rules (optimized_rules_of run.items))
    → IfOk answer (λ run. AreRun form_is.Written grammar (optimized_rules_of run.items))
written_all grammar it rules (Ok run) r e w o = written_run grammar it rules (optimized_rules_of run.items) r e w o
written_all grammar it rules (Err why) r e w o = o

pub optimized_all : {E : Type 0} (grammar : List ℕ) (it : GrammarRules) (rules : Grammar) (answer : Result (Vec OptimizedRule Global) E) → IsReadFrom grammar it → rules ≡ rules_of it.rules.value.items
    → IfOk answer (λ run. IsOptimized rules (optimized_rules_of run.items)) → IfOk answer (λ run. AreRun form_is.Optimized grammar (optimized_rules_of run.items))
optimized_all grammar it rules (Ok run) r e o = optimized_run grammar it rules run.items r e o
optimized_all grammar it rules (Err why) r e o = o
