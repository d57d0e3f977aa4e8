pub mod SameContract
