use Rattle.callers.proofs.evaluated_text.Goals as goal

pub returns : goal.returns
returns c = (c.in_ok-map.map, c.in_ok-map.ensures.map, c.in_ok-map.ensures.outcome, c.in_ok-to_json_string.ensures.0)
