-- `fields::tag_count` meets its contract: no tag by the first field is no run. Assumes nothing.
use Rattle.line.specs.Limits.{most_tags}
use Rattle.fields.specs.Tags.{tag_count}
use Rattle.fields.specs.Fields.{first_field}
use Rattle.fields.proofs.Tags.{run_none}
use Rattle.std.proofs.Common.{sym}
use Rattle.fields.proofs.tag_count.Goals as goal

pub returns-else-is_tag_kind : goal.returns-else-is_tag_kind
unfolding tag_count first_field
returns-else-is_tag_kind c = sym (run_none c.args.f.now 12 most_tags (cc))
