use Rattle.std.proofs.Common.{◌∙◌}
use Rattle.file_json.proofs.Bytes.{json_of-no_text, json_of-text}
use Rattle.file_json.proofs.json.read_json.Goals as goal

pub returns-in_default : goal.returns-in_default
returns-in_default c = json_of-no_text c.args.bytes.now c.in_default.ensures.cases.0

pub returns-in-Ok-from_str : goal.returns-in-Ok-from_str
returns-in-Ok-from_str c = json_of-text c.args.bytes.now c.in-Ok.text.now c.in-Ok.ensures.cases.0 c.in-Ok.ensures.cases.1 ∙ c.in-Ok-from_str.ensures.ok
