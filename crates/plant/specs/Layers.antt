-- How the part that refused is printed.
use Rattle.std.specs.Prelude.{ℕ, List}
use lib.Chars.{codes}
use Rattle.plant.specs.declared.refusal.Layer.{Layer}
use Rattle.plant.specs.declared.refusal.Layer.TheVariants.{Plant, Search, Shift, Text, Form}

abbrev pub layer_name : Layer → List ℕ
layer_name Plant = codes "plant"
layer_name Search = codes "search"
layer_name Shift = codes "shift"
layer_name Text = codes "text"
layer_name Form = codes "form"
