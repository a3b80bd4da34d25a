use Rattle.bean_codec.proofs.FrontItems.{front}
use Rattle.bean_codec.proofs.laws.front_item.Goals as goal

pub returns : goal.returns
returns c = front
