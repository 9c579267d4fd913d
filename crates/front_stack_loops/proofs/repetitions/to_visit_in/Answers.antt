use Rattle.std.proofs.Common.{◌≡◌, ◌∙◌, ◌&&◌, List, ℕ, Some, slice_get, Bool, false, not, sym, ap, ap₂, subst, refl}
use Rattle.base_language.specs.Language.Expression.{whitespace, comment}
use Rattle.base_graphs.specs.Least.{is_set_at}
use Rattle.front_stack_domain.specs.Reports.{SkippingAltersStack}
use Rattle.front_stack_loops.specs.Answers.{AreSound, AreClosed}
use Rattle.front_stack_loops.specs.Expressions.{name_flag}
use Rattle.front_stack_loops.specs.Leading.{AreCalls}
use Rattle.front_analysis.specs.Names.{grammar_of}
use Rattle.front_stack_loops.specs.Reportable.{AreInPostorder, AreReportable}
use Rattle.front_stack_loops.specs.declared.facts.Question.{Question}
use Rattle.front_stack_loops.specs.declared.facts.Question.TheVariants as asks
use Rattle.front_stack_loops.specs.declared.table.NodeKind.{NodeKind}
use Rattle.front_stack_loops.specs.declared.table.PassNode.{PassNode}
use Rattle.front_stack_loops.specs.Kinds.{AreTabled}
use Rattle.base_language.specs.Language.Text.{Text}
use Rattle.front_spanned.specs.declared.node.ParserRule.{ParserRule}
use Rattle.front_stack_loops.proofs.Silence.{behind, silent}
use Rattle.front_stack_loops.proofs.Tabled.{as_it_should, is_calm, is_changed}
use Rattle.front_stack_loops.proofs.Whole.{plain_none}
use Rattle.front_stack_loops.proofs.repetitions.to_visit_in.Goals as goal

tabled_at : (rules : List ParserRule) (kind_of : Text → NodeKind) (ns : List PassNode) (rs ts : List ℕ) → rs ≡ ts → AreTabled rules kind_of ns ts → AreTabled rules kind_of ns rs
tabled_at rules kind_of ns rs ts e h = subst (λ z. AreTabled rules kind_of ns z) (sym e) h

sound_at : (q : Question) (ns ms : List PassNode) (rs ts : List ℕ) (flags : List Bool) → ns ≡ ms → rs ≡ ts → AreSound q ns rs flags → AreSound q ms ts flags
sound_at q ns ms rs ts flags e f h = subst (λ z. AreSound q z ts flags) e (subst (λ z. AreSound q ns z flags) f h)

closed_at : (q : Question) (ns ms : List PassNode) (rs ts : List ℕ) (flags : List Bool) → ns ≡ ms → rs ≡ ts → AreClosed q ns rs flags → AreClosed q ms ts flags
closed_at q ns ms rs ts flags e f h = subst (λ z. AreClosed q z ts flags) e (subst (λ z. AreClosed q ns z flags) f h)

calls_at : (ns ms : List PassNode) (rs ts : List ℕ) (recursive : List Bool) (ranks : List ℕ) → ns ≡ ms → rs ≡ ts → AreCalls ns rs recursive ranks → AreCalls ms ts recursive ranks
calls_at ns ms rs ts recursive ranks e f h = subst (λ z. AreCalls z ts recursive ranks) e (subst (λ z. AreCalls ns z recursive ranks) f h)

pub reportable_nodes-requires : goal.reportable_nodes-requires
reportable_nodes-requires c = subst AreInPostorder (sym c.as_slice-2.ensures.value) (behind c.args.grammar.now.rules.now c.in_ok-nodes.nodes.items c.in_ok-roots.roots.items (tabled_at _ _ _ _ _ c.in_ok-roots.ensures c.in_ok-nodes.ensures))

may_at : (ns ms : List PassNode) (rs ts : List ℕ) (flags : List Bool) → ns ≡ ms → rs ≡ ts → AreReportable ns rs flags → AreReportable ms ts flags
may_at ns ms rs ts flags e f h = subst (λ z. AreReportable z ts flags) e (subst (λ z. AreReportable ns z flags) f h)

off_at : (rs ts : List ℕ) (flags others : List Bool) → rs ≡ ts → flags ≡ others → ((r i : ℕ) → slice_get rs r ≡ Some i → is_set_at flags i ≡ false) → (r i : ℕ) → slice_get ts r ≡ Some i → is_set_at others i ≡ false
off_at rs ts flags others e f h r i at = ap (λ l. is_set_at l i) (sym f) ∙ h r i (ap (λ l. slice_get l r) e ∙ at)

pub returns-then-not-is_some_root_set : goal.returns-then-not-is_some_root_set
returns-then-not-is_some_root_set c =
    let flags = c.in_ok-reportable.reportable.items in
    plain_none c.args.grammar.now.rules.now c.in_ok-nodes.nodes.items c.in_ok-roots.roots.items (tabled_at _ _ _ _ _ c.in_ok-roots.ensures c.in_ok-nodes.ensures) flags
    (may_at _ _ _ _ flags c.as_slice-2.ensures.value c.as_slice.ensures.value c.in_ok-reportable.ensures)
    (off_at _ _ _ _ c.as_slice-3.ensures.value c.as_slice-4.ensures.value (c.is_some_root_set.ensures c.if-not-is_some_root_set.true))

pub returns-then-not-leaves_stack : goal.returns-then-not-leaves_stack
returns-then-not-leaves_stack c =
    let g = grammar_of c.args.grammar.now.rules.now in
    let flags = c.in_ok-changing.changing.items in
    let leaves = λ (r : List ℕ) (f : List Bool). not (name_flag g r f whitespace) && not (name_flag g r f comment) in
    let alters : SkippingAltersStack g = is_changed c.args.grammar.now.rules.now c.in_ok-nodes.nodes.items c.in_ok-roots.roots.items (tabled_at _ _ _ _ _ c.in_ok-roots.ensures c.in_ok-nodes.ensures) flags
    (sound_at asks.AltersStack _ _ _ _ flags c.as_slice-6.ensures.value c.as_slice-5.ensures.value c.in_ok-changing.ensures.sound)
    (closed_at asks.AltersStack _ _ _ _ flags c.as_slice-6.ensures.value c.as_slice-5.ensures.value c.in_ok-changing.ensures.closed)
    (ap₂ leaves (sym c.as_slice-7.ensures.value) (sym c.as_slice-8.ensures.value) ∙ (sym (c.leaves_stack.ensures c.args.grammar.now.rules.now c.requires.resolved.known) ∙ c.if-not-leaves_stack.true)) in
    record { silent = λ s. refl; plain = λ n. absurd (n alters) }

pub returns : goal.returns
returns c =
    let g = grammar_of c.args.grammar.now.rules.now in
    let flags = c.in_ok-changing.changing.items in
    let leaves = λ (r : List ℕ) (f : List Bool). not (name_flag g r f whitespace) && not (name_flag g r f comment) in
    let calm : SkippingAltersStack g → ⊥ = is_calm c.args.grammar.now.rules.now c.in_ok-nodes.nodes.items c.in_ok-roots.roots.items (tabled_at _ _ _ _ _ c.in_ok-roots.ensures c.in_ok-nodes.ensures) flags
    (sound_at asks.AltersStack _ _ _ _ flags c.as_slice-6.ensures.value c.as_slice-5.ensures.value c.in_ok-changing.ensures.sound)
    (closed_at asks.AltersStack _ _ _ _ flags c.as_slice-6.ensures.value c.as_slice-5.ensures.value c.in_ok-changing.ensures.closed)
    (ap₂ leaves (sym c.as_slice-7.ensures.value) (sym c.as_slice-8.ensures.value) ∙ (sym (c.leaves_stack.ensures c.args.grammar.now.rules.now c.requires.resolved.known) ∙ c.if-not-leaves_stack.false)) in
    let reportable = c.in_ok-reportable.reportable.items in
    let may = may_at _ _ _ _ reportable c.as_slice-2.ensures.value c.as_slice.ensures.value c.in_ok-reportable.ensures in record {
      silent = silent c.args.grammar.now.rules.now c.in_ok-nodes.nodes.items c.in_ok-roots.roots.items (tabled_at _ _ _ _ _ c.in_ok-roots.ensures c.in_ok-nodes.ensures) reportable may;
      table = as_it_should c.args.grammar.now.rules.now _ (record {
        tabled = tabled_at _ _ _ _ _ c.in_ok-roots.ensures c.in_ok-nodes.ensures;
        skips = c.is_skipping.ensures c.args.grammar.now.rules.now c.requires.resolved.known;
        nullable = c.in_ok-nullable.ensures;
        calls = calls_at _ _ _ _ _ _ c.as_slice-10.ensures.value c.as_slice-9.ensures.value c.in_ok-recursive.ensures;
        calm = calm;
        limit = refl;
        turns = refl;
      });
    }
