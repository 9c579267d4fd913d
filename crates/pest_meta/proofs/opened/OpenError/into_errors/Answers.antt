use Rattle.std.proofs.Common.{subst}
use Rattle.pest_meta.specs.Opening.{IsOpenError}
use Rattle.pest_meta.proofs.Opens.{all_refused, findings_in_text, memory_only, names_in_text, refused_with}
use Rattle.pest_meta.proofs.opened.OpenError.into_errors.Goals as goal

pub name_errors-requires : goal.name_errors-requires
name_errors-requires c =
    let text = c.args.text.now in
    let has = subst (IsOpenError text) c.in-Names.is c.requires in
    record { in_text = rw c.deref.ensures.value (names_in_text text c.in-Names.findings.items has) }

pub errors_in-requires : goal.errors_in-requires
errors_in-requires c =
    let text = c.args.text.now in
    let has = subst (IsOpenError text) c.in-Rules.is c.requires in
    record { in_text = rw c.deref-in-Rules.ensures.value (findings_in_text text c.in-Rules.findings.items has) }

pub returns-in_ok-vec-in-Syntax-clause-made : goal.returns-in_ok-vec-in-Syntax-clause-made
returns-in_ok-vec-in-Syntax-clause-made c = rw c.in-Syntax.is c.in_ok-vec-in-Syntax.ensures.items

pub returns-in_ok-vec-in-Syntax-clause-told : goal.returns-in_ok-vec-in-Syntax-clause-told
returns-in_ok-vec-in-Syntax-clause-told c =
    refused_with c.args.text.now c.args.self _ c.requires (returns-in_ok-vec-in-Syntax-clause-made c)

pub returns-in-Names-clause-made : goal.returns-in-Names-clause-made
returns-in-Names-clause-made c = rw c.in-Names.is (rw c.deref.ensures.value at c.name_errors.ensures.told)

pub returns-in-Names-clause-told : goal.returns-in-Names-clause-told
returns-in-Names-clause-told c =
    all_refused c.args.text.now c.args.self c.name_errors.result c.requires (returns-in-Names-clause-made c)

pub returns-in-Flaw-clause-made : goal.returns-in-Flaw-clause-made
returns-in-Flaw-clause-made c = rw c.in-Flaw.is c.flaw_errors.ensures.one

pub returns-in-Flaw-clause-told : goal.returns-in-Flaw-clause-told
returns-in-Flaw-clause-told c =
    all_refused c.args.text.now c.args.self c.flaw_errors.result c.requires (returns-in-Flaw-clause-made c)

pub returns-in-Rules-clause-made : goal.returns-in-Rules-clause-made
returns-in-Rules-clause-made c = rw c.in-Rules.is (rw c.deref-in-Rules.ensures.value at c.errors_in.ensures.told)

pub returns-in-Rules-clause-told : goal.returns-in-Rules-clause-told
returns-in-Rules-clause-told c =
    all_refused c.args.text.now c.args.self c.errors_in.result c.requires (returns-in-Rules-clause-made c)

pub returns-in-Names-clause-memory : goal.returns-in-Names-clause-memory
returns-in-Names-clause-memory c = memory_only c.name_errors.result c.name_errors.ensures.memory

pub returns-in-Flaw-clause-memory : goal.returns-in-Flaw-clause-memory
returns-in-Flaw-clause-memory c = memory_only c.flaw_errors.result c.flaw_errors.ensures.memory

pub returns-in-Rules-clause-memory : goal.returns-in-Rules-clause-memory
returns-in-Rules-clause-memory c = memory_only c.errors_in.result c.errors_in.ensures.memory
