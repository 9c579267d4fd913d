use Rattle.format_json.proofs.rules.rule_of.Goals as goal

-- a part that is not read is in the rule of this number
pub returns-in-Err-clause-refused : goal.returns-in-Err-clause-refused
returns-in-Err-clause-refused c = (c.in-Err.why, c.in_rule.ensures, c.in-Err.ensures.refused)
