use Rattle.session.proofs.StoriesKeep.{every_story}
use Rattle.session.proofs.laws.stories_are_lawful.Goals as goal

pub returns : goal.returns
returns c = every_story
