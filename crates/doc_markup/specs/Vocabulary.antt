-- The words of markup.
use Rattle.std.specs.Prelude.{ℕ, List, codes}
use Rattle.doc_markup.specs.declared.vocabulary.Tag.{Tag}
use Rattle.doc_markup.specs.declared.vocabulary.Tag.TheVariants as tag
use Rattle.doc_markup.specs.declared.vocabulary.Attribute.{Attribute}
use Rattle.doc_markup.specs.declared.vocabulary.Attribute.TheVariants as attribute
use Rattle.doc_markup.specs.declared.vocabulary.Class.{Class}
use Rattle.doc_markup.specs.declared.vocabulary.Class.TheVariants as a_class
use Rattle.doc_markup.specs.declared.vocabulary.PathCommand.{PathCommand}
use Rattle.doc_markup.specs.declared.vocabulary.PathCommand.TheVariants as command

-- the name of an element
abbrev pub tag_name : Tag → List ℕ
tag_name tag.A = codes "a"
tag_name tag.Circle = codes "circle"
tag_name tag.Code = codes "code"
tag_name tag.Dd = codes "dd"
tag_name tag.Div = codes "div"
tag_name tag.Dl = codes "dl"
tag_name tag.Dt = codes "dt"
tag_name tag.H2 = codes "h2"
tag_name tag.Li = codes "li"
tag_name tag.P = codes "p"
tag_name tag.Path = codes "path"
tag_name tag.Pre = codes "pre"
tag_name tag.Rect = codes "rect"
tag_name tag.Svg = codes "svg"
tag_name tag.Text = codes "text"
tag_name tag.Ul = codes "ul"

-- the name of an attribute
abbrev pub attribute_name : Attribute → List ℕ
attribute_name attribute.CenterX = codes "cx"
attribute_name attribute.CenterY = codes "cy"
attribute_name attribute.Commands = codes "d"
attribute_name attribute.CornerRadius = codes "rx"
attribute_name attribute.Height = codes "height"
attribute_name attribute.Radius = codes "r"
attribute_name attribute.TextLength = codes "textLength"
attribute_name attribute.ViewBox = codes "viewBox"
attribute_name attribute.Width = codes "width"
attribute_name attribute.X = codes "x"
attribute_name attribute.Y = codes "y"

-- the name of a class
abbrev pub class_name : Class → List ℕ
class_name a_class.Builtin = codes "builtin"
class_name a_class.Call = codes "call"
class_name a_class.Diagram = codes "diagram"
class_name a_class.End = codes "end"
class_name a_class.Group = codes "group"
class_name a_class.Label = codes "label"
class_name a_class.Modifier = codes "modifier"
class_name a_class.Scroll = codes "scroll"
class_name a_class.Terminal = codes "terminal"
class_name a_class.Warning = codes "warning"

-- a command of a path
abbrev pub command_text : PathCommand → List ℕ
command_text command.MoveTo = codes "M"
command_text command.HorizontalTo = codes "H"
command_text command.VerticalTo = codes "V"
command_text command.CurveTo = codes "Q"
command_text command.Separator = codes " "
