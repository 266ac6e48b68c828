mod ConvertingLemmas
mod ExtentLemmas
